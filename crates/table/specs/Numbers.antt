-- What each case of a table's answer tells: "a definition gives this paper's number and values for each of its cases".
-- Assumes nothing.
use Rattle.std.specs.Prelude.{ℕ, Result, Ok, Err}
use Rattle.setups.specs.Numbers.{refusal_number}
use Rattle.requests.specs.Numbers.{call_refusal_number, column_refusal_number}
use Rattle.table.specs.declared.TableRefusal.{TableRefusal}
use Rattle.table.specs.declared.TableRefusal.TheVariants.{Setup, Columns, Row}

-- "Table: 1 to 4, then 20, 21, 22, then rows."
abbrev pub table_refusal_number : TableRefusal → ℕ
table_refusal_number (Setup e) = refusal_number e
table_refusal_number (Columns e) = column_refusal_number e
table_refusal_number (Row e) = call_refusal_number e.refusal

-- "with the row for a table's 10 to 14"
abbrev pub table_refusal_place : TableRefusal → ℕ
table_refusal_place (Setup e) = 0
table_refusal_place (Columns e) = 0
table_refusal_place (Row e) = e.row

-- the end; or the number, and the row from 1 where a row is at fault, else 0
pub data TableTold : Type 0 where
  ended : ℕ → TableTold
  refused_at : ℕ → ℕ → TableTold

abbrev pub table_told : Result ℕ TableRefusal → TableTold
table_told (Ok end) = ended end
table_told (Err e) = refused_at (table_refusal_number e) (table_refusal_place e)
