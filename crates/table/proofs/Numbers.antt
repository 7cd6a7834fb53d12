-- What is told of a table's answer fixes it. Assumes nothing.
use Rattle.std.specs.Prelude.{ℕ, ◌≡◌, Result, Ok, Err, cond, ltb}
use Rattle.std.proofs.Common.{refl, ap}
use Rattle.rule.specs.View.{Determined}
use Rattle.laws.proofs.Unique.{by_inverse}
use Rattle.setups.specs.declared.SetupRefusal.TheVariants.{WrongPolicy, WrongCount, WrongSlice, WrongPriorities}
use Rattle.setups.proofs.Numbers.{refusal_with}
use Rattle.requests.specs.Numbers.{call_refusal_number}
use Rattle.requests.specs.declared.CallRefusal.{CallRefusal}
use Rattle.requests.specs.declared.CallRefusal.TheVariants.{TimePastLimit, TimeBeforeClock, NoSuchTask, WrongAmount, StillOpen}
use Rattle.requests.specs.declared.ColumnRefusal.TheVariants.{UnequalColumns, TooManyRows, ShortResult}
use Rattle.requests.proofs.Numbers.{call_refusal_with, column_refusal_with}
use Rattle.table.specs.Numbers.{table_refusal_number, table_refusal_place, TableTold, ended, refused_at, table_told}
use Rattle.table.specs.declared.TableRefusal.{TableRefusal}
use Rattle.table.specs.declared.TableRefusal.TheVariants.{Setup, Columns, Row}

-- the refusal with a number and a place
abbrev table_refusal_with : ℕ → ℕ → TableRefusal
table_refusal_with n i =
    cond (ltb n 10) (Setup (refusal_with n))
    (cond (ltb n 20) (Row (record { row = i; refusal = call_refusal_with n })) (Columns (column_refusal_with n)))

row_again : (i : ℕ) (e : CallRefusal)
    → table_refusal_with (call_refusal_number e) i ≡ Row (record { row = i; refusal = e })
row_again i TimePastLimit = refl
row_again i TimeBeforeClock = refl
row_again i NoSuchTask = refl
row_again i WrongAmount = refl
row_again i StillOpen = refl

table_refusal_again : (e : TableRefusal) → table_refusal_with (table_refusal_number e) (table_refusal_place e) ≡ e
table_refusal_again (Setup WrongPolicy) = refl
table_refusal_again (Setup WrongCount) = refl
table_refusal_again (Setup WrongSlice) = refl
table_refusal_again (Setup WrongPriorities) = refl
table_refusal_again (Columns UnequalColumns) = refl
table_refusal_again (Columns TooManyRows) = refl
table_refusal_again (Columns ShortResult) = refl
table_refusal_again (Row e) = row_again e.row e.refusal

abbrev answer_with : TableTold → Result ℕ TableRefusal
answer_with (ended end) = Ok end
answer_with (refused_at n i) = Err (table_refusal_with n i)

answer_again : (r : Result ℕ TableRefusal) → answer_with (table_told r) ≡ r
answer_again (Ok end) = refl
answer_again (Err e) = ap (λ (x : TableRefusal). Err x) (table_refusal_again e)

pub table_told_determined : (t : TableTold) → Determined (λ (r : Result ℕ TableRefusal). table_told r ≡ t)
table_told_determined = by_inverse table_told answer_with answer_again
