-- Document 01, "Calls on a run" and "Tables": readings and tables worked by hand, as one list of cases. Assumes
-- nothing.
use Rattle.std.specs.Prelude.{ℕ, List, [], ◌∷◌, ◌++◌}
use Rattle.rule.specs.State.{State, fresh}
use Rattle.rule.specs.Calls.{drained, request, advance, call, calls}
use Rattle.rule.specs.Readings.{Reading, value, never, Soonest, nothing, done, owed_of_lem, given_of, completed_of_lem}
use Rattle.rule.specs.Readings.{next_done_lem}
use Rattle.rule.specs.Table.{Outcome, refused, finished, table_refusal, table, written}
use Rattle.rule.specs.Cases.{number, reads, next, comes, column, Case, robin, single}
use Rattle.rule.specs.Limits.{idle_at}

-- ---- readings

-- case A's requests at 4: task 0 has had 3 ticks, task 1 has had 1
abbrev at_four : State
at_four = calls (fresh (robin 2 1)) (request 0 0 5 ∷ request 2 1 2 ∷ advance 4 ∷ [])

-- task 0 was done at 2 and asked again at 3
abbrev asked_again : State
asked_again = calls (fresh single) (request 0 0 2 ∷ request 3 0 4 ∷ [])

abbrev no_such_task : Reading
no_such_task = Reading.refused 12

abbrev reading : Reading → Reading → Case
reading r e = record { found = reads r; said = reads e }

abbrev next_is : State → Soonest → Case
next_is s e = record { found = next (next_done_lem s); said = next e }

abbrev readings : List Case
readings =
    reading (owed_of_lem at_four 0) (value 2) ∷ reading (owed_of_lem at_four 1) (value 1)
    ∷ reading (given_of at_four 0) (value 3) ∷ reading (given_of at_four 1) (value 1)
    ∷ reading (owed_of_lem at_four 2) no_such_task ∷ reading (given_of at_four 2) no_such_task
    ∷ reading (completed_of_lem at_four 0) never ∷ reading (completed_of_lem at_four 31) no_such_task
    -- by the count, which is here not the policy's number
    ∷ reading (owed_of_lem (fresh (robin 3 1)) 2) (value 0) ∷ reading (owed_of_lem (fresh (robin 3 1)) 3) no_such_task
    ∷ reading (completed_of_lem (drained at_four) 1) (value 5) ∷ reading (owed_of_lem (drained at_four) 1) (value 0)
    ∷ reading (completed_of_lem asked_again 0) (value 2) ∷ reading (given_of asked_again 0) (value 2)
    ∷ reading (owed_of_lem asked_again 0) (value 4)
    ∷ next_is at_four (done 1 5) ∷ next_is (call at_four (advance 5)) (done 0 7) ∷ next_is (drained at_four) nothing
    ∷ next_is asked_again (done 0 7)
    ∷ next_is (call (idle_at 4_000_000_000) (request 4_000_000_000 0 1)) (done 0 4_000_000_001)
    ∷ []

-- ---- tables

abbrev columns : ℕ → ℕ → ℕ → ℕ → ℕ → Case
columns times tasks amounts room n =
    record { found = number (table_refusal single times tasks amounts room); said = number n }

abbrev tabled : List ℕ → List ℕ → List ℕ → ℕ → Outcome → Case
tabled ts ks ms room o = record { found = comes (table single ts ks ms room); said = comes o }

abbrev writes : Outcome → List ℕ → Case
writes o l = record { found = column (written o (1 ∷ 2 ∷ 3 ∷ [])); said = column l }

abbrev tables : List Case
tables =
    columns 0 0 0 0 0 ∷ columns 1_024 1_024 1_024 1_024 0 ∷ columns 1_024 1_024 1_024 2_000 0
    ∷ columns 1 2 1 9 20 ∷ columns 1 1 2 9 20 ∷ columns 2 1 1 9 20
    ∷ columns 1_025 1_025 1_025 2_000 21 ∷ columns 1_024 1_024 1_024 1_023 22
    -- 20 before 21 before 22, and 1 to 4 before these
    ∷ columns 1_025 1_025 1_024 0 20 ∷ columns 1_025 1_025 1_025 0 21
    ∷ record { found = number (table_refusal (robin 1 0) 1 2 3 0); said = number 3 }
    -- 22 before rows; then the first refused row
    ∷ tabled (0 ∷ []) (1 ∷ []) (1 ∷ []) 0 (refused 22 0)
    ∷ tabled (0 ∷ []) (1 ∷ []) (1 ∷ []) 1 (refused 12 1)
    ∷ tabled (0 ∷ 0 ∷ 0 ∷ []) (0 ∷ 0 ∷ 1 ∷ []) (1 ∷ 1 ∷ 1 ∷ []) 3 (refused 14 2)
    -- L: "no rows, task count 1: end 0, nothing written"
    ∷ tabled [] [] [] 0 (finished [] 0)
    -- entries past the rows stay, and a refusal writes none
    ∷ writes (finished (7 ∷ 5 ∷ []) 7) (7 ∷ 5 ∷ 3 ∷ [])
    ∷ writes (refused 14 2) (1 ∷ 2 ∷ 3 ∷ [])
    ∷ []

abbrev pub worked : List Case
worked = readings ++ tables
