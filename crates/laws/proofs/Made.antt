-- Calls and setups keep the invariant, so every made state has it. In order: what is open, calls, setups, made
-- states. Assumes nothing.
use Prim.Native.Nat.{ℕ, ◌+◌, ◌≤◌, ◌<◌}
use native.Mathlib.Omega.{arith}
use mathlib.Core.Path.{◌≡◌, refl, sym, ap, ◌∙◌, subst}
use mathlib.Core.Logic.{⊎_elim}
use mathlib.Core.Bool.{false, true≢false}
use mathlib.Core.List.{List, [], ◌∷◌, ◌++◌}
use lib.ListN.{set, length, length-set, length-append}
use lib.Dec.{eqb}
use borrow.Author.Tests.{eqb-true}
use Rattle.lists.specs.Lists.{at, total, same, times}
use Rattle.lists.proofs.Testing.{tested, equal-or}
use Rattle.lists.proofs.Counting.{same_equal, same_other, times_nil, times_cons, times_append}
use Rattle.lists.proofs.Counting.{length_once}
use Rattle.lists.proofs.Totals.{at_replicate, at_set_same, at_set_other, total_zero}
use Rattle.rule.specs.Setups.{is_priority, setup_refusal_lem}
use Rattle.rule.specs.State.{State, fresh}
use Rattle.rule.specs.Calls.{moved, opened, most_amount, Call, request, advance, drain, request_refusal, refusal}
use Rattle.rule.specs.Calls.{effect, call, calls, Made}
use Rattle.rule.specs.declared.Setup.{Setup}
use Rattle.laws.specs.Sound.{Sliced, Sound}
use Rattle.laws.specs.Accepted.{Taken, Requested}
use Rattle.laws.proofs.Ticks.{moved_setup}
use Rattle.laws.proofs.Accepted.{setup_taken, request_accepted, is_priority_true}
use Rattle.laws.proofs.Sound.{moved_sound, drained_sound}

-- ---- what is open

-- where nothing is open nothing is owed
pub none_owed : (s : State) → Sound s → s.queue ≡ [] → total s.owed ≡ 0
none_owed s h e = total_zero s.owed (λ k. omega (arith, h.queued k, ap (times k) e, times_nil k))

pub queue_short : (s : State) → Sound s → length s.queue ≤ 32
queue_short s h =
    length_once 32 s.queue
    (λ k. omega (arith, h.queued k))
    (λ k l. omega (arith, h.queued k, h.counted k (omega (arith, h.few))))

-- ---- calls

pub opened_sound : (s : State) (k a : ℕ) → Sound s → k < s.setup.count → 0 < a → a ≤ most_amount → at s.owed k ≡ 0
    → Sound (opened s k a)
unfolding opened
opened_sound s k a h c some few z =
    let inside : k < length s.owed = omega (arith, h.few, h.owed32) in
    let here : (j : ℕ) → j ≡ k → at (set s.owed k a) j ≡ a =
    λ j e. rw e (at_set_same s.owed k a inside) in
    let there : (j : ℕ) → (j ≡ k → ⊥) → at (set s.owed k a) j ≡ at s.owed j =
    λ j n. at_set_other s.owed k a j n in
    let one_more : (j : ℕ) → times j (s.queue ++ k ∷ []) ≡ times j s.queue + same j k =
    λ j. omega (arith, times_append j s.queue (k ∷ []), times_cons j k [], times_nil j) in
    record {
      few = h.few;
      owed32 = simp length-set h.owed32;
      given32 = h.given32;
      done32 = h.done32;
      sliced = h.sliced;
      queued = λ j.
          equal-or j k
          (λ e. omega (arith, one_more j, h.queued j, same_equal j k e, here j e, ap (at s.owed) e))
          (λ n. omega (arith, one_more j, h.queued j, same_other j k n, there j n));
      counted = λ j d. omega (arith, there j (λ e. omega arith), h.counted j d);
      limit = λ j. equal-or j k (λ e. omega (arith, here j e)) (λ n. omega (arith, there j n, h.limit j));
      spent = h.spent;
      past = h.past;
    }

pub request_sound : (s : State) (t k a : ℕ) → Sound s → Requested s t k a → Sound (opened (moved s t) k a)
request_sound s t k a h q =
    opened_sound (moved s t) k a (moved_sound s t h) (rw (moved_setup s t) q.task) q.some q.few q.closed

-- a request that is accepted has a place in the queue's array
pub queue_room : (s : State) (t k a : ℕ) → Sound s → request_refusal s t k a ≡ 0 → length (moved s t).queue < 32
unfolding opened
queue_room s t k a h e =
    omega (
      arith,
      queue_short (opened (moved s t) k a) (request_sound s t k a h (request_accepted s t k a e)),
      length-append (moved s t).queue (k ∷ []),
    )

effect_sound : (s : State) (c : Call) → Sound s → refusal s c ≡ 0 → Sound (effect s c)
unfolding effect refusal
effect_sound s (request t k a) h e = request_sound s t k a h (request_accepted s t k a e)
effect_sound s (advance t) h e = moved_sound s t h
effect_sound s drain h e = drained_sound s h

pub call_sound : (s : State) (c : Call) → Sound s → Sound (call s c)
unfolding call
call_sound s c h =
    tested (eqb (refusal s c) 0)
    (λ e. rw e (effect_sound s c h (eqb-true (refusal s c) 0 e)))
    (λ e. rw e h)

pub calls_sound : (s : State) (cs : List Call) → Sound s → Sound (calls s cs)
unfolding calls
calls_sound s [] h = h
calls_sound s (c ∷ cs) h = calls_sound (call s c) cs (call_sound s c h)

-- ---- setups

taken_sliced : (p : Setup) → Taken p → is_priority p ≡ false → Sliced p 0
taken_sliced p h e =
    ⊎_elim
    (λ f. absurd (true≢false (sym (is_priority_true p f) ∙ e)))
    (λ f. record { some = (h.sliced f).0; inside = omega arith })
    h.policy

pub fresh_sound : (p : Setup) → setup_refusal_lem p ≡ 0 → Sound (fresh p)
unfolding total
fresh_sound p e =
    let h = setup_taken p e in
    record {
      few = h.few;
      owed32 = refl;
      given32 = refl;
      done32 = refl;
      sliced = taken_sliced p h;
      queued = λ k. omega (arith, times_nil k, at_replicate 32 k);
      counted = λ k c. at_replicate 32 k;
      limit = λ k. omega (arith, at_replicate 32 k);
      spent = refl;
      past = λ k. omega (arith, at_replicate 32 k);
    }

-- ---- made states

pub made_sound : (s : State) → Made s → Sound s
made_sound s m =
    subst Sound m.reached (calls_sound (fresh m.from) m.sequence (fresh_sound m.from m.taken))

pub made_fresh : (p : Setup) → setup_refusal_lem p ≡ 0 → Made (fresh p)
unfolding calls
made_fresh p e = record { from = p; taken = e; sequence = []; reached = refl }

pub calls_append : (s : State) (cs ds : List Call) → calls s (cs ++ ds) ≡ calls (calls s cs) ds
unfolding calls
calls_append s [] ds = refl
calls_append s (c ∷ cs) ds = calls_append (call s c) cs ds

pub made_call : (s : State) (c : Call) → Made s → Made (call s c)
unfolding calls
made_call s c m =
    record {
      from = m.from;
      taken = m.taken;
      sequence = m.sequence ++ c ∷ [];
      reached = calls_append (fresh m.from) m.sequence (c ∷ []) ∙ ap (λ (r : State). call r c) m.reached;
    }
