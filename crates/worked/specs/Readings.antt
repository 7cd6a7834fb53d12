-- What is read of logs: words, setups, rows, record blocks, and the reader's steps. Assumes nothing.
use Rattle.std.specs.Prelude.{ℕ, List, [], ◌∷◌, ◌++◌, take, replicate, Option, Some, None}
use Rattle.std.specs.Borrow.{Bor}
use Rattle.words.specs.Words.{word}
use Rattle.rule.specs.Setups.{asked}
use Rattle.rule.specs.declared.Setup.{Setup}
use Rattle.judging.specs.Log.{Verdict, accepted, refused}
use Rattle.logs.specs.Records.{setup_of_lem, column, found, block_asked, stretch}
use Rattle.rule.specs.declared.Request.{Request}
use Rattle.places.specs.Places.{taken_at, setup_at_lem}
use Rattle.places.specs.declared.Taken.{Taken}
use Rattle.reader.specs.Reading.{reader_on, setup_by, first_found, nexts}
use Rattle.reader.specs.declared.Reader.{Reader}
use Rattle.worked.specs.Made.{number, bytes, verdict, setup, row, steps, taken, Case, reads}
use Rattle.worked.specs.Made.{as_bytes, little, made, head, case_a, wrong, empty}

abbrev recorded : ℕ → ℕ → ℕ → Request
recorded time task amount = record { time = time; task = task; amount = amount }

-- priority, three tasks
abbrev ranks : List ℕ
ranks = made (0 ∷ 1 ∷ 3 ∷ 0 ∷ 66_311 ∷ []) 66_316

-- 42 records: all zeros but the last two
abbrev long : List ℕ
long =
    head ++ take 488 (empty 1 41) ++ as_bytes (11 ∷ 12 ∷ 13 ∷ 0 ∷ 0 ∷ []) ++ little 79
    ++ made (2 ∷ 1 ∷ 16_909_060 ∷ 15 ∷ 16 ∷ []) 16_909_095

-- ---- words, setups and columns

-- "Numbers are little-endian."; a byte past the end counts as 0
abbrev stands : List ℕ → ℕ → ℕ → Case
stands l place w = record { found = number (word l place); said = number w }

abbrev listed : ℕ → List ℕ → List ℕ → Case
listed w log l = record { found = bytes (column w log); said = bytes l }

-- a log as it is lent
abbrev lent : List ℕ → Bor (List ℕ)
lent log = record { ref_ptr = (0, 0); now = log }

-- the setup that a reader gives at the opening; of a refused log a plain one
abbrev opens_on : List ℕ → Setup → Case
opens_on log p = record { found = setup (setup_by (reader_on (lent log))); said = setup p }

abbrev pub readings : List Case
readings =
    stands (9 ∷ 1 ∷ 2 ∷ 3 ∷ 4 ∷ 9 ∷ []) 1 67_305_985 ∷ stands (9 ∷ 5 ∷ []) 1 5 ∷ stands (9 ∷ []) 1 0
    ∷ reads long ∷ reads ranks
    ∷ record { found = setup (setup_of_lem case_a); said = setup (asked 2 2 1 (replicate 32 0)) }
    ∷ record { found = setup (setup_of_lem ranks); said = setup (asked 1 3 0 (7 ∷ 3 ∷ 1 ∷ replicate 29 0)) }
    ∷ opens_on case_a (asked 2 2 1 (replicate 32 0)) ∷ opens_on ranks (asked 1 3 0 (7 ∷ 3 ∷ 1 ∷ replicate 29 0))
    ∷ opens_on (head ++ wrong) (asked 1 1 0 (replicate 32 0))
    ∷ record { found = setup (setup_at_lem long 2); said = setup (asked 2 2 1 (replicate 32 0)) }
    ∷ listed 0 case_a (0 ∷ 2 ∷ []) ∷ listed 1 case_a (0 ∷ 1 ∷ []) ∷ listed 2 case_a (5 ∷ 2 ∷ []) ∷ listed 0 head []
    ∷ listed 0 long (replicate 40 0 ++ 11 ∷ 16_909_060 ∷ [])
    ∷ listed 1 long (replicate 40 0 ++ 12 ∷ 15 ∷ []) ∷ listed 2 long (replicate 40 0 ++ 13 ∷ 16 ∷ [])
    ∷ []

-- ---- rows, by number and by a reader: "after the last it says that there is none, and stays"

abbrev finds : List ℕ → ℕ → Option Request → Case
finds log i f = record { found = row (found log i); said = row f }

abbrev walks : Reader → ℕ → List (Option Request) → Case
walks r n fs = record { found = steps (nexts r n); said = steps fs }

-- what a reader finds from the opening on
abbrev opens : List ℕ → ℕ → List (Option Request) → Case
opens log n fs = walks (reader_on (lent log)) n fs

-- and from record r of block b on
abbrev goes_on : List ℕ → ℕ → ℕ → ℕ → List (Option Request) → Case
goes_on log b r n fs = walks (record { log = lent log; block = b; «record» = r }) n fs

-- "knows its next record": one step, and the place after
abbrev takes : List ℕ → ℕ → ℕ → Taken → Case
takes log b r t = record { found = taken (taken_at log b r); said = taken t }

abbrev at : Option Request → ℕ → ℕ → Taken
at f b r = record { found = f; block = b; «record» = r }

abbrev pub rows_read : List Case
rows_read =
    finds case_a 0 (Some (recorded 0 0 5)) ∷ finds case_a 1 (Some (recorded 2 1 2)) ∷ finds case_a 2 None
    ∷ finds case_a 3 None ∷ finds head 0 None
    ∷ opens case_a 4 (Some (recorded 0 0 5) ∷ Some (recorded 2 1 2) ∷ None ∷ None ∷ [])
    ∷ opens head 2 (None ∷ None ∷ []) ∷ opens (head ++ wrong) 2 (None ∷ None ∷ [])
    ∷ goes_on long 1 39 5
    (Some (recorded 0 0 0) ∷ Some (recorded 11 12 13) ∷ Some (recorded 16_909_060 15 16) ∷ None ∷ None ∷ [])
    ∷ takes case_a 1 1 (at (Some (recorded 2 1 2)) 1 2) ∷ takes case_a 1 2 (at None 1 2)
    ∷ takes case_a 1 3 (at None 1 3) ∷ takes case_a 0 0 (at None 0 0)
    ∷ takes long 1 40 (at (Some (recorded 11 12 13)) 2 0) ∷ takes long 2 1 (at None 2 1)
    ∷ record { found = row (first_found case_a); said = row (Some (recorded 0 0 5)) }
    ∷ record { found = row (first_found (head ++ wrong)); said = row None }
    ∷ []

-- ---- 34, "a record block asked for that the log does not have (block 0 included)", after the whole log was judged

abbrev asks : List ℕ → ℕ → Verdict → Case
asks log i v = record { found = verdict (block_asked log i); said = verdict v }

-- "the used records are given back as that stretch of the caller's log"
abbrev gives : List ℕ → ℕ → List ℕ → Case
gives log i l = record { found = bytes (stretch log i); said = bytes l }

abbrev pub record_blocks : List Case
record_blocks =
    asks case_a 0 (refused 34 0) ∷ asks case_a 1 accepted ∷ asks case_a 2 (refused 34 0)
    ∷ asks case_a 4_294_967_295 (refused 34 0)
    ∷ asks head 0 (refused 34 0) ∷ asks head 1 (refused 34 0) ∷ asks long 2 accepted ∷ asks long 3 (refused 34 0)
    ∷ asks (head ++ wrong) 0 (refused 31 1) ∷ asks (head ++ wrong) 1 (refused 31 1) ∷ asks [] 0 (refused 30 0)
    ∷ gives case_a 1 (as_bytes (0 ∷ 0 ∷ 5 ∷ 2 ∷ 1 ∷ 2 ∷ [])) ∷ gives case_a 0 [] ∷ gives case_a 2 []
    ∷ gives (head ++ wrong) 1 [] ∷ gives long 2 (as_bytes (16_909_060 ∷ 15 ∷ 16 ∷ []))
    ∷ []
