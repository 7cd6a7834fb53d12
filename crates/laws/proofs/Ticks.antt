-- What ticks do to the clock and the setup, and how they add up. In order: one tick, ticks, moves and drains. Assumes
-- nothing.
use Prim.Native.Nat.{ℕ, zero, suc, ◌+◌, ◌-◌, ◌≤◌}
use native.Mathlib.Nat.{suc-add, zero-add}
use native.Mathlib.Omega.{arith}
use mathlib.Core.Path.{◌≡◌, refl, sym, ap, ◌∙◌}
use mathlib.Core.List.{List, [], ◌∷◌}
use Rattle.lists.specs.Lists.{total}
use Rattle.rule.specs.State.{State}
use Rattle.rule.specs.Tick.{turn, give, rest, serve, tick_on, tick, ticks}
use Rattle.rule.specs.Calls.{moved, drained}

-- ---- one tick

clock_on : (s : State) (q : List ℕ) → (tick_on s q).clock ≡ s.clock + 1
unfolding turn give rest serve tick_on
clock_on s [] = refl
clock_on s (h ∷ t) = refl

setup_on : (s : State) (q : List ℕ) → (tick_on s q).setup ≡ s.setup
unfolding turn give rest serve tick_on
setup_on s [] = refl
setup_on s (h ∷ t) = refl

pub tick_clock : (s : State) → (tick s).clock ≡ s.clock + 1
unfolding tick
tick_clock s = clock_on s s.queue

pub tick_setup : (s : State) → (tick s).setup ≡ s.setup
unfolding tick
tick_setup s = setup_on s s.queue

-- ---- ticks

pub ticks_zero : (s : State) → ticks 0 s ≡ s
unfolding ticks
ticks_zero s = refl

pub ticks_clock : (n : ℕ) (s : State) → (ticks n s).clock ≡ s.clock + n
unfolding ticks
ticks_clock zero s = omega arith
ticks_clock (suc n) s = omega (arith, ticks_clock n (tick s), tick_clock s)

pub ticks_setup : (n : ℕ) (s : State) → (ticks n s).setup ≡ s.setup
unfolding ticks
ticks_setup zero s = refl
ticks_setup (suc n) s = ticks_setup n (tick s) ∙ tick_setup s

pub ticks_add : (m n : ℕ) (s : State) → ticks (m + n) s ≡ ticks n (ticks m s)
unfolding ticks
ticks_add zero n s = ap (λ (j : ℕ). ticks j s) (zero-add n)
ticks_add (suc m) n s = ap (λ (j : ℕ). ticks j s) (suc-add m n) ∙ ticks_add m n (tick s)

-- ---- moves and drains

pub moved_clock : (s : State) (t : ℕ) → s.clock ≤ t → (moved s t).clock ≡ t
unfolding moved
moved_clock s t h = omega (arith, ticks_clock (t - s.clock) s)

pub moved_setup : (s : State) (t : ℕ) → (moved s t).setup ≡ s.setup
unfolding moved
moved_setup s t = ticks_setup (t - s.clock) s

-- to the present clock
pub moved_same : (s : State) → moved s s.clock ≡ s
unfolding moved
moved_same s = ap (λ (j : ℕ). ticks j s) (omega arith) ∙ ticks_zero s

-- to a time by way of an earlier one
pub moved_moved : (s : State) (u t : ℕ) → s.clock ≤ u → u ≤ t → moved (moved s u) t ≡ moved s t
unfolding moved
moved_moved s u t h g =
    ap (λ (c : ℕ). ticks (t - c) (ticks (u - s.clock) s)) (ticks_clock (u - s.clock) s)
    ∙ sym (ticks_add (u - s.clock) (t - (s.clock + (u - s.clock))) s)
    ∙ ap (λ (j : ℕ). ticks j s) (omega arith)

pub drained_clock : (s : State) → (drained s).clock ≡ s.clock + total s.owed
unfolding drained
drained_clock s = ticks_clock (total s.owed) s

-- a drain is a move by what is owed
pub moved_drained : (s : State) → moved s (s.clock + total s.owed) ≡ drained s
unfolding moved drained
moved_drained s = let e : s.clock + total s.owed - s.clock ≡ total s.owed = omega arith in rw e
