-- What the functions inside the report promise. Assumes nothing.
use Rattle.std.specs.Prelude.{ℕ, ◌≤◌, ◌≡◌, List, length, take}
use Rattle.rule.specs.Table.{most_rows}
use Rattle.logs.specs.Records.{asked_times, asked_tasks, asked_amounts}

-- Three columns with an entry for each row that a log may have.
pub record Roomy (times tasks amounts : List ℕ) : Type 0 where
  pub times_room : length times ≡ most_rows
  pub tasks_room : length tasks ≡ most_rows
  pub amounts_room : length amounts ≡ most_rows

-- The first i rows of a log stand in them.
pub record Filled (log : List ℕ) (i : ℕ) (times tasks amounts : List ℕ) : Type 0 where
  pub inside : i ≤ length (asked_times log)
  pub roomy : Roomy times tasks amounts
  pub times_same : take i times ≡ take i (asked_times log)
  pub tasks_same : take i tasks ≡ take i (asked_tasks log)
  pub amounts_same : take i amounts ≡ take i (asked_amounts log)
