-- The state at each instant while calls are made and a drain follows: by it is said what a row's completion is.
-- Assumes nothing.
use Rattle.std.specs.Prelude.{ℕ, ◌<◌, ◌≤◌, ◌≡◌, cond, List, [], ◌∷◌, leb}
use Rattle.lists.specs.Lists.{at}
use Rattle.rule.specs.State.{State}
use Rattle.rule.specs.Calls.{moved, Call, call}
use Rattle.laws.specs.Sequences.{reach}

-- the state at the instant u; at a call's own time, the one before the call
unfoldable pub during : State → List Call → ℕ → State
during s [] u = moved s u
during s (c ∷ cs) u = cond (leb u (reach s c)) (moved s u) (during (call s c) cs u)

-- Task k, open in s, is done at t: "It is then no longer open", and t is the first such instant. Its latest
-- completion is then t.
pub record ClosesAt (s : State) (k : ℕ) (cs : List Call) (t : ℕ) : Type 0 where
  pub later : s.clock < t
  pub before : (u : ℕ) → s.clock ≤ u → u < t → 0 < at (during s cs u).owed k
  pub then : at (during s cs t).owed k ≡ 0
  pub reads : at (during s cs t).done k ≡ t
