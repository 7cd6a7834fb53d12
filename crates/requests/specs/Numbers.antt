-- What each case of an answer tells: "a definition gives this paper's number and values for each of its cases".
-- Assumes nothing.
use Rattle.std.specs.Prelude.{ℕ, Result}
use Rattle.rule.specs.Refusal.{number_by}
use Rattle.requests.specs.declared.CallRefusal.{CallRefusal}
use Rattle.requests.specs.declared.CallRefusal.TheVariants.{TimePastLimit, TimeBeforeClock, NoSuchTask, WrongAmount, StillOpen}
use Rattle.requests.specs.declared.ColumnRefusal.{ColumnRefusal}
use Rattle.requests.specs.declared.ColumnRefusal.TheVariants.{UnequalColumns, TooManyRows, ShortResult}

-- "10: time above 4,000,000,000", "11: time before the clock", "12: task not below the count", "13: amount 0 or above
-- 1,000,000", "14: task still open at that time by the rule"
abbrev pub call_refusal_number : CallRefusal → ℕ
call_refusal_number TimePastLimit = 10
call_refusal_number TimeBeforeClock = 11
call_refusal_number NoSuchTask = 12
call_refusal_number WrongAmount = 13
call_refusal_number StillOpen = 14

-- a call's number: 0 where it is accepted
abbrev pub call_number : {A : Type 0} → Result A CallRefusal → ℕ
call_number r = number_by call_refusal_number r

-- "20: columns of unequal length", "21: more than 1,024 rows", "22: result column shorter than the rows"
abbrev pub column_refusal_number : ColumnRefusal → ℕ
column_refusal_number UnequalColumns = 20
column_refusal_number TooManyRows = 21
column_refusal_number ShortResult = 22

-- the columns' number: 0 where they fit
abbrev pub column_number : {A : Type 0} → Result A ColumnRefusal → ℕ
column_number r = number_by column_refusal_number r
