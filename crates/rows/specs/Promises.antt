-- What the functions inside a table run promise. Rows count from 1 in `last` and `noted`. Assumes nothing.
use Rattle.std.specs.Prelude.{ℕ, zero, suc, ◌+◌, ◌≡◌, cond, List, [], ◌∷◌, ◌++◌, length, eqb, Result, IfOk, IfErr}
use Rattle.lists.specs.Lists.{at, Below}
use Rattle.rule.specs.State.{State}
use Rattle.rule.specs.Calls.{Call}
use Rattle.rule.specs.Table.{refused, finished, outcome_from}
use Rattle.requests.specs.Numbers.{call_refusal_number}
use Rattle.rows.specs.declared.Ran.{Ran}
use Rattle.rows.specs.declared.RowRefusal.{RowRefusal}

-- ---- each row's completion

-- Row j's completion, where d is its task's latest: d if the row is its task's last, else what was noted when the task
-- was requested again. `last` has each task's last row, and `noted` an entry for each row.
abbrev pub settled_by : List ℕ → List ℕ → List ℕ → ℕ → ℕ → ℕ
settled_by last noted ks d j = cond (eqb (at last (at ks j)) (j + 1)) d (at noted (j + 1))

-- with each task's latest at the end
abbrev pub settled : List ℕ → List ℕ → List ℕ → List ℕ → ℕ → ℕ
settled ks last done noted j = settled_by last noted ks (at done (at ks j)) j

-- those of the first n rows, and of all
unfoldable pub settled_rows : List ℕ → List ℕ → List ℕ → List ℕ → ℕ → List ℕ
settled_rows ks last done noted zero = []
settled_rows ks last done noted (suc n) = settled_rows ks last done noted n ++ settled ks last done noted n ∷ []

abbrev pub settled_column : List ℕ → List ℕ → List ℕ → List ℕ → List ℕ
settled_column ks last done noted = settled_rows ks last done noted (length ks)

-- ---- the rows run

-- All rows were accepted, each for one of the 32 tasks, and the run was drained.
pub record AllTaken (s : State) (cs : List Call) (ks noted : List ℕ) (ran : Ran) : Type 0 where
  pub known : Below 32 ks
  pub ends : outcome_from s cs ≡ finished (settled_column ks ran.last ran.done noted) ran.end

-- This row was refused, and none before it.
abbrev pub StoppedAt : State → List Call → RowRefusal → Type 0
StoppedAt s cs at_row = outcome_from s cs ≡ refused (call_refusal_number at_row.refusal) at_row.row

-- The rows were run until one was refused, or all. This does not fix `last`, `done` and `noted` by themselves: where
-- all rows are accepted it fixes the completions that they settle, and these alone reach the caller of a table.
pub record Runs (s : State) (cs : List Call) (ks : List ℕ) (r : Result Ran RowRefusal) (before noted : List ℕ) : Type 0
  where
    pub room : length noted ≡ length before
    pub stopped : IfErr r (StoppedAt s cs)
    pub taken : IfOk r (AllTaken s cs ks noted)
