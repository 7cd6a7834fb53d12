-- When a task closes, as ticks go on. In order: one tick, ticks, the instant at which an open task is done. Assumes
-- nothing.
use Prim.Native.Nat.{ℕ, zero, suc, ◌+◌, ◌-◌, ◌≤◌, ◌<◌}
use native.Mathlib.Omega.{arith}
use mathlib.Core.Path.{◌≡◌, refl, ap, ◌∙◌}
use mathlib.Core.Logic.{⊎_elim}
use borrow.Author.Tests.{eq-eqb}
use Rattle.lists.specs.Lists.{at, same}
use Rattle.lists.proofs.Testing.{equal-or}
use Rattle.lists.proofs.Counting.{same_equal, same_other}
use Rattle.rule.specs.State.{State}
use Rattle.rule.specs.Tick.{rest, tick, ticks}
use Rattle.laws.specs.Sound.{Sound}
use Rattle.laws.proofs.Ticks.{tick_clock, ticks_add}
use Rattle.laws.proofs.Served.{Served, ticked}
use Rattle.laws.proofs.Sound.{owed_at, done_last, done_other, tick_sound, ticks_sound}

-- ---- one tick

module _ (s : State) (k : ℕ) (h : Sound s) where
  -- an open task that closes is done at the end of the tick
  pub tick_closes : 0 < at s.owed k → at (tick s).owed k ≡ 0 → at (tick s).done k ≡ s.clock + 1
  unfolding rest
  tick_closes o z =
      ⊎_elim
      (λ w. absurd (omega (arith, ap (λ (r : State). at r.owed k) w.1)))
      (λ w.
      let i : ℕ = w.0 in
      let v : Served s (tick s) i = w.1 in
      let down : at (tick s).owed k + same k i ≡ at s.owed k = owed_at s (tick s) i h v k in
      equal-or k i
      (λ e. rw e
      (done_last s (tick s) i h v
      (eq-eqb (at s.owed i) 1 (omega (arith, down, same_equal k i e, ap (at s.owed) e)))))
      (λ n. absurd (omega (arith, down, same_other k i n))))
      (ticked s)

  -- a task that is not open stays so, and keeps its completion
  pub tick_closed : at s.owed k ≡ 0 → (at (tick s).owed k ≡ 0) × (at (tick s).done k ≡ at s.done k)
  unfolding rest
  tick_closed z =
      ⊎_elim
      (λ w. (ap (λ (r : State). at r.owed k) w.1 ∙ z, ap (λ (r : State). at r.done k) w.1))
      (λ w.
      let i : ℕ = w.0 in
      let v : Served s (tick s) i = w.1 in
      let down : at (tick s).owed k + same k i ≡ at s.owed k = owed_at s (tick s) i h v k in
      (omega (arith, down), done_other s (tick s) i h v k (λ e. omega (arith, down, same_equal k i e))))
      (ticked s)

  -- so a task that is open after the tick was open before
  pub tick_opened : 0 < at (tick s).owed k → 0 < at s.owed k
  tick_opened o =
      equal-or (at s.owed k) 0 (λ z. absurd (omega (arith, (tick_closed z).0))) (λ n. omega arith)

-- ---- ticks

pub ticks_closed : (n : ℕ) (s : State) (k : ℕ) → Sound s → at s.owed k ≡ 0
    → (at (ticks n s).owed k ≡ 0) × (at (ticks n s).done k ≡ at s.done k)
unfolding ticks
ticks_closed zero s k h z = (z, refl)
ticks_closed (suc n) s k h z =
    let q = tick_closed s k h z in
    let r = ticks_closed n (tick s) k (tick_sound s h) q.0 in
    (r.0, r.1 ∙ q.1)

-- open after n ticks, and so before
pub open_earlier : (s : State) (k n j : ℕ) → Sound s → 0 < at (ticks n s).owed k → j ≤ n → 0 < at (ticks j s).owed k
open_earlier s k n j h o l =
    equal-or (at (ticks j s).owed k) 0
    (λ z.
    let q = (ticks_closed (n - j) (ticks j s) k (ticks_sound j s h) z).0 in
    let e : ticks n s ≡ ticks (n - j) (ticks j s) =
    ap (λ (i : ℕ). ticks i s) (omega arith) ∙ ticks_add j (n - j) s in
    absurd (omega (arith, ap (λ (r : State). at r.owed k) e)))
    (λ d. omega arith)

-- ---- the instant at which an open task is done

-- Task k is open, and is not n ticks on: it was done m ticks on.
pub record DoneIn (s : State) (k n : ℕ) : Type 0 where
  pub m : ℕ
  pub some : 0 < m
  pub soon : m ≤ n
  pub before : (j : ℕ) → j < m → 0 < at (ticks j s).owed k
  pub then : at (ticks m s).owed k ≡ 0
  pub reads_then : at (ticks m s).done k ≡ s.clock + m
  pub reads : at (ticks n s).done k ≡ s.clock + m

pub done_in : (n : ℕ) (s : State) (k : ℕ) → Sound s → 0 < at s.owed k → at (ticks n s).owed k ≡ 0 → DoneIn s k n
unfolding ticks
done_in zero s k h o z = absurd (omega arith)
done_in (suc n) s k h o z =
    equal-or (at (tick s).owed k) 0
    (λ e.
    let f : at (tick s).done k ≡ s.clock + 1 = tick_closes s k h o e in
    record {
      m = 1;
      some = omega arith;
      soon = omega arith;
      before = λ j b. only j b;
      then = e;
      reads_then = f;
      reads = (ticks_closed n (tick s) k (tick_sound s h) e).1 ∙ f;
    })
    (λ d.
    let w = done_in n (tick s) k (tick_sound s h) (omega arith) z in
    record {
      m = suc w.m;
      some = omega arith;
      soon = omega (arith, w.soon);
      before = λ j b. more w j b;
      then = w.then;
      reads_then = omega (arith, w.reads_then, tick_clock s);
      reads = omega (arith, w.reads, tick_clock s);
    })
  where
    only : (j : ℕ) → j < 1 → 0 < at (ticks j s).owed k
    only zero b = o
    only (suc j) b = absurd (omega arith)

    more : (w : DoneIn (tick s) k n) (j : ℕ) → j < suc w.m → 0 < at (ticks j s).owed k
    more w zero b = o
    more w (suc j) b = w.before j (omega arith)
