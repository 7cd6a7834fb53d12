-- What `table` promises of its answer and of the result column. Assumes nothing.
use Rattle.std.specs.Prelude.{ℕ, ◌≡◌, List, length, Result}
use Rattle.rule.specs.Table.{Outcome, refused, finished, table, written}
use Rattle.rule.specs.declared.Setup.{Setup}
use Rattle.requests.specs.declared.Columns.{Columns}
use Rattle.table.specs.Numbers.{TableTold, ended, refused_at, table_told}
use Rattle.table.specs.declared.TableRefusal.{TableRefusal}

-- what the answer tells for each outcome: the end; or the number, and the row from 1 or 0
abbrev pub answer_of : Outcome → TableTold
answer_of (finished ts end) = ended end
answer_of (refused n i) = refused_at n i

-- o is the outcome that the rule gives, and `before` and `after` are the result column
pub record Answers (o : Outcome) (before : List ℕ) (r : Result ℕ TableRefusal) (after : List ℕ) : Type 0 where
  pub answer : table_told r ≡ answer_of o
  pub column : after ≡ written o before

-- the same of the table that these columns give with this setup
abbrev pub AnswersTable : Setup → Columns → List ℕ → Result ℕ TableRefusal → List ℕ → Type 0
AnswersTable p c before r after =
    Answers (table p c.times.now c.tasks.now c.amounts.now (length before)) before r after
