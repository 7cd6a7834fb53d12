-- One answer for each number of a call's refusal, and of that of columns. Assumes nothing.
use Rattle.std.specs.Prelude.{ℕ, ◌≡◌, ◌<◌, Result, cond, eqb}
use Rattle.std.specs.Result.{result_unwrap_or}
use Rattle.std.proofs.Common.{refl, sym, arith, ◌∙◌}
use Rattle.rule.specs.View.{Determined}
use Rattle.laws.proofs.Unique.{answer_one}
use Rattle.requests.specs.Numbers.{call_refusal_number, call_number, column_refusal_number, column_number}
use Rattle.requests.specs.declared.CallRefusal.{CallRefusal}
use Rattle.requests.specs.declared.CallRefusal.TheVariants.{TimePastLimit, TimeBeforeClock, NoSuchTask, WrongAmount, StillOpen}
use Rattle.requests.specs.declared.ColumnRefusal.{ColumnRefusal}
use Rattle.requests.specs.declared.ColumnRefusal.TheVariants.{UnequalColumns, TooManyRows, ShortResult}

-- ---- a call's

-- the refusal with a number
abbrev pub call_refusal_with : ℕ → CallRefusal
call_refusal_with n =
    cond (eqb n 10) TimePastLimit
    (cond (eqb n 11) TimeBeforeClock
    (cond (eqb n 12) NoSuchTask
    (cond (eqb n 13) WrongAmount StillOpen)))

call_refusal_again : (e : CallRefusal) → call_refusal_with (call_refusal_number e) ≡ e
call_refusal_again TimePastLimit = refl
call_refusal_again TimeBeforeClock = refl
call_refusal_again NoSuchTask = refl
call_refusal_again WrongAmount = refl
call_refusal_again StillOpen = refl

pub call_refusal_some : (e : CallRefusal) → 0 < call_refusal_number e
call_refusal_some TimePastLimit = omega arith
call_refusal_some TimeBeforeClock = omega arith
call_refusal_some NoSuchTask = omega arith
call_refusal_some WrongAmount = omega arith
call_refusal_some StillOpen = omega arith

pub call_answer_one : {A : Type 0} (d : A) (x y : Result A CallRefusal) → call_number x ≡ call_number y
    → result_unwrap_or x d ≡ result_unwrap_or y d → x ≡ y
call_answer_one = answer_one call_refusal_number call_refusal_with call_refusal_again call_refusal_some

pub call_number_determined : (n : ℕ) → Determined (λ (r : Result (Unit {0}) CallRefusal). call_number r ≡ n)
call_number_determined n x y a b = call_answer_one tt x y (a ∙ sym b) refl

-- ---- that of columns

abbrev pub column_refusal_with : ℕ → ColumnRefusal
column_refusal_with n = cond (eqb n 20) UnequalColumns (cond (eqb n 21) TooManyRows ShortResult)

column_refusal_again : (e : ColumnRefusal) → column_refusal_with (column_refusal_number e) ≡ e
column_refusal_again UnequalColumns = refl
column_refusal_again TooManyRows = refl
column_refusal_again ShortResult = refl

pub column_refusal_some : (e : ColumnRefusal) → 0 < column_refusal_number e
column_refusal_some UnequalColumns = omega arith
column_refusal_some TooManyRows = omega arith
column_refusal_some ShortResult = omega arith

pub column_number_determined : (n : ℕ) → Determined (λ (r : Result (Unit {0}) ColumnRefusal). column_number r ≡ n)
column_number_determined n x y a b =
    answer_one column_refusal_number column_refusal_with column_refusal_again column_refusal_some tt x y (a ∙ sym b) refl
