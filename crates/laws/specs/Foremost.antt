-- Document 01, "The tick-by-tick rule", what the choice under priority means, a field for each clause. Assumes
-- nothing.
use Rattle.std.specs.Prelude.{ℕ, ◌≤◌, ◌<◌, ◌≡◌, List}
use Rattle.lists.specs.Lists.{at, times}

-- "the open task with the greatest priority number ..; among equals, .. the smaller task number"
pub record Foremost (prio queue : List ℕ) (task : ℕ) : Type 0 where
  pub stands : 0 < times task queue
  pub greatest : (other : ℕ) → 0 < times other queue → at prio other ≤ at prio task
  pub smaller : (other : ℕ) → 0 < times other queue → at prio other ≡ at prio task → task ≤ other
