-- What the function that puts rows asks. Assumes nothing.
use Rattle.std.specs.Prelude.{ℕ, ◌≤◌, ◌≡◌, List, length}
use Rattle.requests.specs.declared.Columns.{Columns}
use Rattle.text.specs.Text.{most_lines}

-- Four columns of one length, and not too long.
pub record Fit (c : Columns) (done : List ℕ) : Type 0 where
  pub few : length c.tasks.now ≤ most_lines
  pub times_too : length c.times.now ≡ length c.tasks.now
  pub amounts_too : length c.amounts.now ≡ length c.tasks.now
  pub done_too : length done ≡ length c.tasks.now
