-- Document 01, "Tables": the columns of a table, as they are lent. Assumes nothing.
use Rattle.std.specs.Prelude.{ℕ, List, length}
use Rattle.lists.specs.Lists.{at}
use Rattle.rule.specs.Calls.{Call}
use Rattle.rule.specs.Table.{rows}
use Rattle.rule.specs.declared.Setup.{Setup}
use Rattle.rule.specs.declared.Request.{Request}
use Rattle.laws.specs.Rows.{Fitted, Tabled}
use Rattle.requests.specs.declared.Columns.{Columns}

-- "Columns of times, tasks and amounts": their rows
abbrev pub rows_of : Columns → List Call
rows_of c = rows c.times.now c.tasks.now c.amounts.now

-- and row i of them
abbrev pub row_of : Columns → ℕ → Request
row_of c i = record { time = at c.times.now i; task = at c.tasks.now i; amount = at c.amounts.now i }

-- the setup is accepted, and the columns are "equally long, at most 1,024 rows"
abbrev pub ColumnsFitted : Setup → Columns → Type 0
ColumnsFitted p c = Fitted p (length c.times.now) (length c.tasks.now) (length c.amounts.now)

-- and the result column, so long, has room for them
abbrev pub ColumnsTabled : Setup → Columns → ℕ → Type 0
ColumnsTabled p c room = Tabled p (length c.times.now) (length c.tasks.now) (length c.amounts.now) room
