-- Document 01, "Calls on a run", what the reading of the next completion names. Assumes nothing.
use Rattle.std.specs.Prelude.{ℕ, ◌-◌, ◌<◌, ◌≡◌}
use Rattle.lists.specs.Lists.{at}
use Rattle.rule.specs.State.{State}
use Rattle.rule.specs.Tick.{ticks}

-- "the task that would be done next and when, if nothing more were asked": it is open, at the time it no longer is,
-- and at each instant before every task that is open now still is.
pub record DoneNext (s : State) (task time : ℕ) : Type 0 where
  pub opened : 0 < at s.owed task
  pub later : s.clock < time
  pub done : at (ticks (time - s.clock) s).owed task ≡ 0
  pub first : (m : ℕ) → m < time - s.clock → (k : ℕ) → 0 < at s.owed k → 0 < at (ticks m s).owed k
