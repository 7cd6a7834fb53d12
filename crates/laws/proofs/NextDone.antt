-- Which task is done next, by a jump: the one that the ticks of a jump finish, or the one that is done next after
-- them. Assumes nothing.
use Prim.Native.Nat.{ℕ, zero, suc, ◌+◌, ◌-◌, ◌≤◌, ◌<◌}
use native.Mathlib.Omega.{arith}
use mathlib.Core.Path.{◌≡◌, sym, ap, ◌∙◌, subst}
use lib.ListN.{length}
use lib.Dec.{ltb}
use borrow.Author.Tests.{ltb-true, ltb-false}
use Rattle.lists.specs.Lists.{at}
use Rattle.lists.proofs.Testing.{tested, equal-or}
use Rattle.lists.proofs.Totals.{at_inside, at_set_same, at_set_other}
use Rattle.rule.specs.State.{State}
use Rattle.rule.specs.Tick.{chosen, turn, give, ticks}
use Rattle.laws.specs.Sound.{Sound, Room}
use Rattle.laws.specs.Next.{DoneNext}
use Rattle.laws.proofs.Ticks.{ticks_clock, ticks_add}
use Rattle.laws.proofs.Jump.{ticks_jump}

give_owed_same : (s : State) (i n : ℕ) → i < length s.owed → at (give s i n).owed i ≡ at s.owed i - n
unfolding give
give_owed_same s i n h = at_set_same s.owed i (at s.owed i - n) h

give_owed_other : (s : State) (i n k : ℕ) → (k ≡ i → ⊥) → at (give s i n).owed k ≡ at s.owed k
unfolding give
give_owed_other s i n k e = at_set_other s.owed i (at s.owed i - n) k e

-- t is s after the turn, and its chosen task i gets n ticks in a row
module _ (s t : State) (S : Sound s) (some : 0 < length s.queue) (e : t ≡ turn s) (i n : ℕ)
    (is : i ≡ chosen t.setup t.queue) (p : 0 < n) (h : n ≤ at t.owed i)
    (w : Room t.setup t.used n) where
  turned_owed : (k : ℕ) → at t.owed k ≡ at s.owed k
  turned_owed k = unfold turn in ap (λ (x : State). at x.owed k) e

  turned_clock : t.clock ≡ s.clock
  turned_clock = unfold turn in ap (λ (x : State). x.clock) e

  after : (m : ℕ) → 0 < m → m ≤ n → ticks m s ≡ give t i m
  after m q b = ticks_jump s t S some e i m is q (omega arith) (λ f. omega (arith, w f))

  after_owed : (m : ℕ) → 0 < m → m ≤ n → (k : ℕ) → at (ticks m s).owed k ≡ at (give t i m).owed k
  after_owed m q b k = ap (λ (x : State). at x.owed k) (after m q b)

  -- m of the ticks, of which none is the last, leave every open task open
  after_open : (m : ℕ) → m < at t.owed i → m ≤ n → (k : ℕ) → 0 < at s.owed k → 0 < at (ticks m s).owed k
  unfolding ticks
  after_open zero l b k a = a
  after_open (suc m) l b k a =
      let o = after_owed (suc m) (omega arith) b k in
      equal-or k i
      (λ f.
      let g : at (give t i (suc m)).owed k ≡ at t.owed i - suc m =
      rw f (give_owed_same t i (suc m) (at_inside t.owed i (omega arith))) in
      omega arith)
      (λ f. omega (arith, give_owed_other t i (suc m) k f, turned_owed k))

  -- the ticks give no task more to be owed
  after_less : (k : ℕ) → at (ticks n s).owed k ≤ at s.owed k
  after_less k =
      let o = after_owed n p (omega arith) k in
      equal-or k i
      (λ f.
      let g : at (give t i n).owed k ≡ at t.owed i - n =
      rw f (give_owed_same t i n (at_inside t.owed i (omega arith))) in
      let y : at t.owed k ≡ at t.owed i = ap (at t.owed) f in
      omega (arith, turned_owed k))
      (λ f. omega (arith, give_owed_other t i n k f, turned_owed k))

  pub next_jumped : at t.owed i ≡ n → DoneNext s i (t.clock + n)
  next_jumped l =
      let j : t.clock + n - s.clock ≡ n = omega (arith, turned_clock) in
      let o : at t.owed i - n ≡ 0 = omega arith in
      record {
        opened = omega (arith, turned_owed i);
        later = omega (arith, turned_clock);
        done =
            ap (λ (m : ℕ). at (ticks m s).owed i) j
            ∙ after_owed n p (omega arith) i
            ∙ give_owed_same t i n (at_inside t.owed i (omega arith))
            ∙ o;
        first = λ m b k a. after_open m (omega arith) (omega arith) k a;
      }

  pub next_passed : n < at t.owed i → (task time : ℕ) → DoneNext (ticks n s) task time → DoneNext s task time
  next_passed l task time d =
      let c : (ticks n s).clock ≡ s.clock + n = ticks_clock n s in
      let r = time - (ticks n s).clock in
      let j : time - s.clock ≡ n + r = omega (arith, d.later) in
      record {
        opened = omega (arith, after_less task, d.opened);
        later = omega (arith, d.later);
        done =
            ap (λ (m : ℕ). at (ticks m s).owed task) j
            ∙ ap (λ (x : State). at x.owed task) (ticks_add n r s)
            ∙ d.done;
        first = λ m b k a.
            tested (ltb m n)
            (λ f. after_open m (omega (arith, ltb-true m n f)) (omega (arith, ltb-true m n f)) k a)
            (λ f.
            let g : m ≡ n + (m - n) = omega (arith, ltb-false m n f) in
            let u : ticks m s ≡ ticks (m - n) (ticks n s) = ap (λ (q : ℕ). ticks q s) g ∙ ticks_add n (m - n) s in
            subst (λ (x : State). 0 < at x.owed k) (sym u)
            (d.first (m - n) (omega arith) k (after_open n l (omega arith) k a)));
      }
