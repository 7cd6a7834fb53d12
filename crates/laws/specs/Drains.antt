-- Document 01, "Calls on a run", what the drain is. Assumes nothing.
use Rattle.std.specs.Prelude.{ℕ, ◌+◌, ◌<◌, ◌≡◌}
use Rattle.lists.specs.Lists.{at, total}
use Rattle.rule.specs.State.{State}
use Rattle.rule.specs.Tick.{ticks}
use Rattle.rule.specs.Calls.{drained}

-- "moves the clock to the first instant at which nothing is open. .. The clock moves by exactly the ticks owed."
pub record Drains (s : State) : Type 0 where
  pub clock : (drained s).clock ≡ s.clock + total s.owed
  pub closed : (k : ℕ) → at (drained s).owed k ≡ 0
  pub first : (n : ℕ) → n < total s.owed → (k : ℕ) × (0 < at (ticks n s).owed k)

-- "A drain may carry the clock to at most 4,032,000,000"
abbrev pub last_clock : ℕ
last_clock = 4_032_000_000
