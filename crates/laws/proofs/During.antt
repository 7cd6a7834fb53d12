-- A row's completion is the first instant at which its request is no longer open (`closes`). In order: what a call is
-- to a task that it does not open, tasks that are not open, tasks that are, the theorem. Assumes nothing.
use Prim.Native.Nat.{ℕ, ◌+◌, ◌-◌, ◌≤◌, ◌<◌}
use native.Mathlib.Omega.{arith}
use mathlib.Core.Path.{◌≡◌, refl, sym, ap, ◌∙◌, subst}
use mathlib.Core.List.{List, [], ◌∷◌}
use lib.Dec.{leb}
use borrow.Author.Tests.{eq-eqb, ne_eqb, leb-true, leb-false, le-leb, lt-leb}
use Rattle.lists.specs.Lists.{at, total}
use Rattle.lists.proofs.Testing.{tested, equal-or, cond-true, cond-false}
use Rattle.lists.proofs.Totals.{at_set_other, at_le_total}
use Rattle.rule.specs.State.{State}
use Rattle.rule.specs.Tick.{ticks}
use Rattle.rule.specs.Calls.{moved, drained, opened, Call, request, advance, drain, refusal, effect, call}
use Rattle.rule.specs.Table.{completion}
use Rattle.laws.specs.Sound.{Sound}
use Rattle.laws.specs.Sequences.{AllAccepted, reach}
use Rattle.laws.specs.During.{during, ClosesAt}
use Rattle.laws.proofs.Ticks.{ticks_clock}
use Rattle.laws.proofs.Accepted.{advance_accepted, request_accepted, accepted_acts}
use Rattle.laws.proofs.Made.{call_sound}
use Rattle.laws.proofs.Drains.{ticks_owed}
use Rattle.laws.proofs.Closing.{ticks_closed, open_earlier, DoneIn, done_in}

-- ---- a call that does not open task k is n ticks to it

record Passes (s : State) (k : ℕ) (c : Call) (n : ℕ) : Type 0 where
  reaches : reach s c ≡ s.clock + n
  clock : (call s c).clock ≡ s.clock + n
  owed : at (call s c).owed k ≡ at (ticks n s).owed k
  done : at (call s c).done k ≡ at (ticks n s).done k

request_passes : (s : State) (k t j a : ℕ) → refusal s (request t j a) ≡ 0 → (j ≡ k → ⊥)
    → Passes s k (request t j a) (t - s.clock)
unfolding reach refusal effect opened moved
request_passes s k t j a z n =
    let q = request_accepted s t j a z in
    let f = accepted_acts s (request t j a) z in
    record {
      reaches = omega (arith, q.later);
      clock = ap (λ (r : State). r.clock) f ∙ ticks_clock (t - s.clock) s;
      owed = ap (λ (r : State). at r.owed k) f
          ∙ at_set_other (ticks (t - s.clock) s).owed j a k (λ e. n (sym e));
      done = ap (λ (r : State). at r.done k) f;
    }

advance_passes : (s : State) (k t : ℕ) → refusal s (advance t) ≡ 0 → Passes s k (advance t) (t - s.clock)
unfolding reach refusal effect moved
advance_passes s k t z =
    let q = advance_accepted s t z in
    let f = accepted_acts s (advance t) z in
    record {
      reaches = omega (arith, q.later);
      clock = ap (λ (r : State). r.clock) f ∙ ticks_clock (t - s.clock) s;
      owed = ap (λ (r : State). at r.owed k) f;
      done = ap (λ (r : State). at r.done k) f;
    }

drain_passes : (s : State) (k : ℕ) → Passes s k drain (total s.owed)
unfolding reach refusal effect drained
drain_passes s k =
    let f = accepted_acts s drain refl in
    record {
      reaches = refl;
      clock = ap (λ (r : State). r.clock) f ∙ ticks_clock (total s.owed) s;
      owed = ap (λ (r : State). at r.owed k) f;
      done = ap (λ (r : State). at r.done k) f;
    }

-- ---- a task that is not open keeps its completion until its next request

closed_call : (s : State) (k n : ℕ) (c : Call) → Sound s → Passes s k c n → at s.owed k ≡ 0
    → (at (call s c).owed k ≡ 0) × (at (call s c).done k ≡ at s.done k)
closed_call s k n c h p z =
    let q = ticks_closed n s k h z in
    (p.owed ∙ q.0, p.done ∙ q.1)

moved_done : (s : State) (t k : ℕ) → Sound s → at s.owed k ≡ 0 → at (moved s t).done k ≡ at s.done k
unfolding moved
moved_done s t k h z = (ticks_closed (t - s.clock) s k h z).1

drained_done : (s : State) (k : ℕ) → Sound s → at s.owed k ≡ 0 → at (drained s).done k ≡ at s.done k
unfolding drained
drained_done s k h z = (ticks_closed (total s.owed) s k h z).1

pub completion_closed : (cs : List Call) (s : State) (k : ℕ) → Sound s → AllAccepted s cs → at s.owed k ≡ 0
    → completion s k cs ≡ at s.done k
unfolding completion AllAccepted
completion_closed [] s k h a z = drained_done s k h z
completion_closed (request t j b ∷ cs) s k h a z =
    let c : Call = request t j b in
    equal-or j k
    (λ e. cond-true _ _ (eq-eqb j k e) ∙ moved_done s t k h z)
    (λ n.
    let q = closed_call s k (t - s.clock) c h (request_passes s k t j b a.0 n) z in
    cond-false _ _ (ne_eqb j k n) ∙ completion_closed cs (call s c) k (call_sound s c h) a.1 q.0 ∙ q.1)
completion_closed (advance t ∷ cs) s k h a z =
    let c : Call = advance t in
    let q = closed_call s k (t - s.clock) c h (advance_passes s k t a.0) z in
    completion_closed cs (call s c) k (call_sound s c h) a.1 q.0 ∙ q.1
completion_closed (drain ∷ cs) s k h a z =
    let q = closed_call s k (total s.owed) drain h (drain_passes s k) z in
    completion_closed cs (call s drain) k (call_sound s drain h) a.1 q.0 ∙ q.1

-- ---- a task that is open

during_early : (s : State) (c : Call) (cs : List Call) (u : ℕ) → u ≤ reach s c → during s (c ∷ cs) u ≡ moved s u
unfolding during
during_early s c cs u l = cond-true _ _ (le-leb u (reach s c) l)

during_late : (s : State) (c : Call) (cs : List Call) (u : ℕ) → reach s c < u
    → during s (c ∷ cs) u ≡ during (call s c) cs u
unfolding during
during_late s c cs u l = cond-false _ _ (lt-leb u (reach s c) l)

from_ticks : (s : State) (k n : ℕ) (cs : List Call) (t : ℕ) (w : DoneIn s k n)
    → ((u : ℕ) → u ≤ s.clock + n → during s cs u ≡ moved s u) → t ≡ s.clock + w.m → ClosesAt s k cs t
unfolding moved
from_ticks s k n cs t w d e =
    let there : during s cs t ≡ ticks w.m s =
    d t (omega (arith, w.soon)) ∙ ap (λ (j : ℕ). ticks j s) (omega arith) in
    record {
      later = omega (arith, w.some);
      before = λ u a b.
          subst (λ (r : State). 0 < at r.owed k) (sym (d u (omega (arith, w.soon))))
          (w.before (u - s.clock) (omega arith));
      then = ap (λ (r : State). at r.owed k) there ∙ w.then;
      reads = ap (λ (r : State). at r.done k) there ∙ w.reads_then ∙ sym e;
    }

module _ (s : State) (k n : ℕ) (c : Call) (cs : List Call) (h : Sound s) (o : 0 < at s.owed k)
    (p : Passes s k c n) where
  -- it is done by the end of this call
  done_by : (t : ℕ) → at (call s c).owed k ≡ 0 → t ≡ at (call s c).done k → ClosesAt s k (c ∷ cs) t
  done_by t z e =
      let w = done_in n s k h o (sym p.owed ∙ z) in
      from_ticks s k n (c ∷ cs) t w (λ u l. during_early s c cs u (omega (arith, p.reaches))) (e ∙ p.done ∙ w.reads)

  -- it is still open after this call
  open_yet : (t : ℕ) → 0 < at (call s c).owed k → ClosesAt (call s c) k cs t → ClosesAt s k (c ∷ cs) t
  unfolding moved
  open_yet t o' w =
      let late : during s (c ∷ cs) t ≡ during (call s c) cs t =
      during_late s c cs t (omega (arith, w.later, p.clock, p.reaches)) in
      record {
        later = omega (arith, w.later, p.clock);
        before = λ u a b.
            tested (leb u (reach s c))
            (λ l.
            let early : u ≤ reach s c = leb-true u (reach s c) l in
            subst (λ (r : State). 0 < at r.owed k) (sym (during_early s c cs u early))
            (open_earlier s k n (u - s.clock) h (omega (arith, p.owed)) (omega (arith, p.reaches))))
            (λ l.
            let past : reach s c < u = leb-false u (reach s c) l in
            subst (λ (r : State). 0 < at r.owed k) (sym (during_late s c cs u past))
            (w.before u (omega (arith, p.reaches, p.clock)) b));
        then = ap (λ (r : State). at r.owed k) late ∙ w.then;
        reads = ap (λ (r : State). at r.done k) late ∙ w.reads;
      }

  passing : AllAccepted (call s c) cs
      → (0 < at (call s c).owed k → ClosesAt (call s c) k cs (completion (call s c) k cs))
      → ClosesAt s k (c ∷ cs) (completion (call s c) k cs)
  passing a later =
      let t : ℕ = completion (call s c) k cs in
      equal-or (at (call s c).owed k) 0
      (λ z. done_by t z (completion_closed cs (call s c) k (call_sound s c h) a z))
      (λ d. open_yet t (omega arith) (later (omega arith)))

drain_closes : (s : State) (k : ℕ) → Sound s → 0 < at s.owed k → ClosesAt s k [] (at (drained s).done k)
unfolding drained during
drain_closes s k h o =
    let n : ℕ = total s.owed in
    let w = done_in n s k h o (omega (arith, at_le_total (ticks n s).owed k, ticks_owed n s h)) in
    from_ticks s k n [] (at (ticks n s).done k) w (λ u l. refl) w.reads

-- the next request of the task itself is accepted, so the task is not open at its time
next_closes : (s : State) (k t j b : ℕ) (cs : List Call) → Sound s → 0 < at s.owed k
    → refusal s (request t j b) ≡ 0 → j ≡ k → ClosesAt s k (request t j b ∷ cs) (at (moved s t).done k)
unfolding refusal moved reach
next_closes s k t j b cs h o z e =
    let c : Call = request t j b in
    let q = request_accepted s t j b z in
    let n : ℕ = t - s.clock in
    let w = done_in n s k h o (ap (at (ticks n s).owed) (sym e) ∙ q.closed) in
    from_ticks s k n (c ∷ cs) (at (ticks n s).done k) w
    (λ u l. during_early s c cs u (omega (arith, q.later)))
    w.reads

-- ---- the theorem, for a task that is open and calls that are accepted

pub closes : (cs : List Call) (s : State) (k : ℕ) → Sound s → 0 < at s.owed k → AllAccepted s cs
    → ClosesAt s k cs (completion s k cs)
unfolding completion AllAccepted
closes [] s k h o a = drain_closes s k h o
closes (request t j b ∷ cs) s k h o a =
    let c : Call = request t j b in
    equal-or j k
    (λ e. subst (ClosesAt s k (c ∷ cs)) (sym (cond-true _ _ (eq-eqb j k e))) (next_closes s k t j b cs h o a.0 e))
    (λ n.
    subst (ClosesAt s k (c ∷ cs)) (sym (cond-false _ _ (ne_eqb j k n)))
    (passing s k (t - s.clock) c cs h o (request_passes s k t j b a.0 n) a.1
    (λ o'. closes cs (call s c) k (call_sound s c h) o' a.1)))
closes (advance t ∷ cs) s k h o a =
    let c : Call = advance t in
    passing s k (t - s.clock) c cs h o (advance_passes s k t a.0) a.1
    (λ o'. closes cs (call s c) k (call_sound s c h) o' a.1)
closes (drain ∷ cs) s k h o a =
    passing s k (total s.owed) drain cs h o (drain_passes s k) a.1
    (λ o'. closes cs (call s drain) k (call_sound s drain h) o' a.1)
