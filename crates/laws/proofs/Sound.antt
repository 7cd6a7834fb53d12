-- Ticks keep the invariant, proved once over the policy. In order: what a service does to a sound state, ticks, moves
-- and drains. (Calls, setups and made states: Made.) Assumes nothing.
use Prim.Native.Nat.{ℕ, zero, suc, ◌+◌, ◌-◌, ◌≤◌, ◌<◌, min}
use native.Mathlib.Omega.{arith}
use mathlib.Core.Path.{◌≡◌, sym, ap, ◌∙◌, subst}
use mathlib.Core.Logic.{⊎_elim}
use mathlib.Core.Bool.{true, false}
use mathlib.Core.List.{List}
use lib.ListN.{length, length-set}
use borrow.Author.Tests.{eqb-true, eqb-false}
use Rattle.lists.specs.Lists.{at, total, same, times}
use Rattle.lists.proofs.Testing.{tested, equal-or, cond-true, cond-false, cond_both}
use Rattle.lists.proofs.Counting.{same_refl, same_other, times_without_same, times_without_other}
use Rattle.lists.proofs.Totals.{at_inside, at_set_same, at_set_other, total_set}
use Rattle.rule.specs.State.{State}
use Rattle.rule.specs.Tick.{last, rest, tick, ticks}
use Rattle.rule.specs.Calls.{moved, drained}
use Rattle.laws.specs.Sound.{Sound}
use Rattle.laws.proofs.Served.{Served, ticked}

-- ---- a service

module _ (s r : State) (i : ℕ) (h : Sound s) (v : Served s r i) where
  pub served_owed : 0 < at s.owed i
  served_owed = omega (arith, h.queued i, v.is_open_lem)

  pub served_inside : i < 32
  served_inside = omega (arith, at_inside s.owed i served_owed, h.owed32)

  pub owed_at : (k : ℕ) → at r.owed k + same k i ≡ at s.owed k
  owed_at k =
      let left : ℕ = at s.owed i - 1 in
      equal-or k i
      (λ e. rw (v.owed, e)
      (omega (arith, same_refl i, served_owed, at_set_same s.owed i left (at_inside s.owed i served_owed))))
      (λ n. rw v.owed (omega (arith, same_other k i n, at_set_other s.owed i left k n)))

  pub given_at : (k : ℕ) → at r.given k ≡ at s.given k + same k i
  given_at k =
      let more : ℕ = at s.given i + 1 in
      equal-or k i
      (λ e. rw (v.given, e)
      (omega (arith, same_refl i, at_set_same s.given i more (omega (arith, served_inside, h.given32)))))
      (λ n. rw v.given (omega (arith, same_other k i n, at_set_other s.given i more k n)))

  pub owed_total : total r.owed + 1 ≡ total s.owed
  owed_total =
      rw v.owed
      (omega (arith, served_owed, total_set s.owed i (at s.owed i - 1) (at_inside s.owed i served_owed)))

  given_total : total r.given ≡ total s.given + 1
  given_total =
      rw v.given
      (omega (arith, total_set s.given i (at s.given i + 1) (omega (arith, served_inside, h.given32))))

  -- the latest completion of the task that is done, and of any other
  pub done_last : last s i 1 ≡ true → at r.done i ≡ s.clock + 1
  done_last e =
      ap (λ (l : List ℕ). at l i) (v.done ∙ cond-true _ _ e)
      ∙ at_set_same s.done i (s.clock + 1) (omega (arith, served_inside, h.done32))

  pub done_more : last s i 1 ≡ false → r.done ≡ s.done
  done_more e = v.done ∙ cond-false _ _ e

  pub done_other : (k : ℕ) → (k ≡ i → ⊥) → at r.done k ≡ at s.done k
  done_other k n =
      tested (last s i 1)
      (λ e. ap (λ (l : List ℕ). at l k) (v.done ∙ cond-true _ _ e) ∙ at_set_other s.done i (s.clock + 1) k n)
      (λ e. ap (λ (l : List ℕ). at l k) (done_more e))

  served_queued : (k : ℕ) → times k r.queue ≡ min 1 (at r.owed k)
  served_queued k =
      tested (last s i 1)
      (λ l.
      let one : at s.owed i ≡ 1 = eqb-true (at s.owed i) 1 l in
      equal-or k i
      (λ e.
      v.queue k ∙ cond-true _ _ l ∙ rw e (omega (arith, times_without_same i s.queue, owed_at i, same_refl i)))
      (λ n.
      v.queue k ∙ cond-true _ _ l ∙ times_without_other k i s.queue n
      ∙ omega (arith, h.queued k, owed_at k, same_other k i n)))
      (λ l.
      let more : at s.owed i ≡ 1 → ⊥ = eqb-false (at s.owed i) 1 l in
      equal-or k i
      (λ e. v.queue k ∙ cond-false _ _ l ∙ rw e (omega (arith, h.queued i, owed_at i, same_refl i, served_owed)))
      (λ n. v.queue k ∙ cond-false _ _ l ∙ omega (arith, h.queued k, owed_at k, same_other k i n)))

  served_past : (k : ℕ) → at r.done k ≤ r.clock
  served_past k =
      equal-or k i
      (λ e. rw e
      (tested (last s i 1)
      (λ l. omega (arith, v.clock, done_last l))
      (λ l. omega (arith, v.clock, h.past i, ap (λ (x : List ℕ). at x i) (done_more l)))))
      (λ n. omega (arith, v.clock, h.past k, done_other k n))

  served_done32 : length r.done ≡ 32
  served_done32 =
      ap length v.done
      ∙ cond_both (λ (l : List ℕ). length l ≡ 32) (last s i 1) _ _ (simp length-set h.done32) h.done32

  pub served_sound : Sound r
  served_sound =
      record {
        few = rw v.setup h.few;
        owed32 = ap length v.owed ∙ simp length-set h.owed32;
        given32 = ap length v.given ∙ simp length-set h.given32;
        done32 = served_done32;
        sliced = λ e. rw v.setup (v.sliced (rw v.setup at e) (h.sliced (rw v.setup at e)));
        queued = served_queued;
        counted = λ k c. omega (arith, owed_at k, h.counted k (rw v.setup at c));
        limit = λ k. omega (arith, owed_at k, h.limit k);
        spent = omega (arith, v.clock, v.idle, given_total, h.spent);
        past = served_past;
      }

-- ---- ticks

pub rest_sound : (s : State) (n : ℕ) → Sound s → Sound (rest s n)
unfolding rest
rest_sound s n h =
    record {
      few = h.few;
      owed32 = h.owed32;
      given32 = h.given32;
      done32 = h.done32;
      sliced = h.sliced;
      queued = h.queued;
      counted = h.counted;
      limit = h.limit;
      spent = omega (arith, h.spent);
      past = λ k. omega (arith, h.past k);
    }

pub tick_sound : (s : State) → Sound s → Sound (tick s)
tick_sound s h =
    ⊎_elim
    (λ w. subst Sound (sym w.1) (rest_sound s 1 h))
    (λ w. served_sound s (tick s) w.0 h w.1)
    (ticked s)

pub ticks_sound : (n : ℕ) (s : State) → Sound s → Sound (ticks n s)
unfolding ticks
ticks_sound zero s h = h
ticks_sound (suc n) s h = ticks_sound n (tick s) (tick_sound s h)

pub moved_sound : (s : State) (t : ℕ) → Sound s → Sound (moved s t)
unfolding moved
moved_sound s t h = ticks_sound (t - s.clock) s h

pub drained_sound : (s : State) → Sound s → Sound (drained s)
unfolding drained
drained_sound s h = ticks_sound (total s.owed) s h
