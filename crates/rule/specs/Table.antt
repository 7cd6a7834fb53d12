-- Document 01, "Tables". Assumes nothing.
use Rattle.std.specs.Prelude.{ℕ, ◌+◌, cond, not, ◌&&◌, List, [], ◌∷◌, ◌++◌, length, drop, ltb, eqb}
use Rattle.lists.specs.Lists.{at}
use Rattle.rule.specs.Refusal.{refuse, first}
use Rattle.rule.specs.Setups.{setup_refusal_lem}
use Rattle.rule.specs.State.{State, fresh}
use Rattle.rule.specs.Calls.{moved, drained, Call, request, advance, drain, refusal, call, calls}
use Rattle.rule.specs.declared.Setup.{Setup}

pub data Outcome : Type 0 where
  refused : ℕ → ℕ → Outcome  -- the number, and the row from 1 where a row is at fault, else 0
  finished : List ℕ → ℕ → Outcome  -- each row's completion, and the end

-- ---- the rows, "requested in order, then it drains"

-- "row i's completion time": that of its own request. In the state s task k's request was just made; calls follow,
-- and then the drain. The completion is the task's latest just before its next request, or at the end.
unfoldable pub completion : State → ℕ → List Call → ℕ
completion s k [] = at (drained s).done k
completion s k (request t j a ∷ cs) =
    cond (eqb j k) (at (moved s t).done k) (completion (call s (request t j a)) k cs)
completion s k (advance t ∷ cs) = completion (call s (advance t)) k cs
completion s k (drain ∷ cs) = completion (call s drain) k cs

-- that of each row
unfoldable pub completions : State → List Call → List ℕ
completions s [] = []
completions s (request t k a ∷ cs) =
    completion (call s (request t k a)) k cs ∷ completions (call s (request t k a)) cs
completions s (advance t ∷ cs) = completions (call s (advance t)) cs
completions s (drain ∷ cs) = completions (call s drain) cs

-- "If any row is refused, the table is refused with the first such row": calls are counted from i, and o is the
-- outcome where none is refused
unfoldable pub unless_refused : ℕ → State → List Call → Outcome → Outcome
unless_refused i s [] o = o
unless_refused i s (c ∷ cs) o =
    cond (eqb (refusal s c) 0) (unless_refused (i + 1) (call s c) cs o) (refused (refusal s c) i)

-- "counted from 1"; "The end is the clock after the drain."
unfoldable pub outcome_from : State → List Call → Outcome
outcome_from s cs = unless_refused 1 s cs (finished (completions s cs) (drained (calls s cs)).clock)

-- ---- the columns

-- "at most 1,024 rows"
abbrev pub most_rows : ℕ
most_rows = 1_024

-- "Columns of times, tasks and amounts"
unfoldable pub rows : List ℕ → List ℕ → List ℕ → List Call
rows [] ks ms = []
rows (t ∷ ts) [] ms = []
rows (t ∷ ts) (k ∷ ks) [] = []
rows (t ∷ ts) (k ∷ ks) (m ∷ ms) = request t k m ∷ rows ts ks ms

-- "equally long", and not too many; by the columns' lengths and that of the result column
unfoldable pub column_refusal_lem : ℕ → ℕ → ℕ → ℕ → ℕ
column_refusal_lem times tasks amounts room =
    first
    (refuse 20 (not (eqb tasks times && eqb amounts times))
    ∷ refuse 21 (ltb most_rows times)
    ∷ refuse 22 (ltb room times)
    ∷ [])

-- "Table: 1 to 4, then 20, 21, 22, then rows."
unfoldable pub table_refusal : Setup → ℕ → ℕ → ℕ → ℕ → ℕ
table_refusal p times tasks amounts room =
    cond (eqb (setup_refusal_lem p) 0) (column_refusal_lem times tasks amounts room) (setup_refusal_lem p)

-- "The run is fresh from the setup": n is the refusal before the rows
unfoldable pub table_from : ℕ → Setup → List Call → Outcome
table_from n p cs = cond (eqb n 0) (outcome_from (fresh p) cs) (refused n 0)

unfoldable pub table : Setup → List ℕ → List ℕ → List ℕ → ℕ → Outcome
table p ts ks ms room = table_from (table_refusal p (length ts) (length ks) (length ms) room) p (rows ts ks ms)

-- "Entry i of the result becomes row i's completion time; entries past the rows stay. .. If any row is refused, .. no
-- entry is written."
unfoldable pub written : Outcome → List ℕ → List ℕ
written (refused n i) column = column
written (finished ts end) column = ts ++ drop (length ts) column
