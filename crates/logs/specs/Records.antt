-- Document 01, "The desk's log form": the setup, the rows and the record blocks of a log that reads. Assumes nothing.
use Rattle.std.specs.Prelude.{ℕ, zero, suc, ◌+◌, ◌*◌, ◌-◌, cond, ◌&&◌, List, [], ◌∷◌, ◌++◌, length, take, drop}
use Rattle.std.specs.Prelude.{Option, Some, None, leb, ltb}
use Rattle.lists.specs.Lists.{at}
use Rattle.words.specs.Words.{word}
use Rattle.rule.specs.Calls.{Call}
use Rattle.rule.specs.Table.{rows}
use Rattle.rule.specs.declared.Setup.{Setup}
use Rattle.judging.specs.Blocks.{blocks, block, setup_in_lem, count}
use Rattle.judging.specs.Log.{Verdict, accepted, refused, judged}
use Rattle.rule.specs.declared.Request.{Request}

abbrev pub setup_of_lem : List ℕ → Setup
setup_of_lem log = setup_in_lem (block log 0)

-- ---- the rows

-- "records of 12 bytes .. (time, task, amount, a word each)": the record in the first of these bytes
unfoldable pub record_in_lem : List ℕ → Request
record_in_lem bytes = record { time = word bytes 0; task = word bytes 4; amount = word bytes 8 }

-- word w of each of n records
unfoldable pub entries : ℕ → ℕ → List ℕ → List ℕ
entries w zero bytes = []
entries w (suc n) bytes = word bytes (4 * w) ∷ entries w n (drop 12 bytes)

-- "from byte 8": word w of the records of `left` blocks from block i on
unfoldable pub column_from : ℕ → List ℕ → ℕ → ℕ → List ℕ
column_from w log i zero = []
column_from w log i (suc left) =
    entries w (count (block log i)) (drop 8 (block log i)) ++ column_from w log (i + 1) left

-- "No records: block 0 alone."
unfoldable pub column : ℕ → List ℕ → List ℕ
column w log = column_from w log 1 (blocks log - 1)

abbrev pub asked_times : List ℕ → List ℕ
asked_times log = column 0 log

abbrev pub asked_tasks : List ℕ → List ℕ
asked_tasks log = column 1 log

abbrev pub asked_amounts : List ℕ → List ℕ
asked_amounts log = column 2 log

-- the log's rows, as the table takes them
abbrev pub row_list : List ℕ → List Call
row_list log = rows (asked_times log) (asked_tasks log) (asked_amounts log)

-- row i, counted from 0, of a log that reads; 0s past the last
abbrev pub row_at : List ℕ → ℕ → Request
row_at log i =
    record { time = at (asked_times log) i; task = at (asked_tasks log) i; amount = at (asked_amounts log) i }

-- "after the last it says that there is none"
unfoldable pub found : List ℕ → ℕ → Option Request
found log i = cond (ltb i (length (asked_times log))) (Some (row_at log i)) None

-- ---- a numbered record block

-- the verdict on the log, and where it reads what comes next
abbrev pub after_log : Verdict → Verdict → Verdict
after_log accepted next = next
after_log (refused n i) next = refused n i

-- 34, "a record block asked for that the log does not have (block 0 included)"; "first judges the whole log so,
-- then 34"
unfoldable pub block_asked : List ℕ → ℕ → Verdict
block_asked log i = after_log (judged log) (cond (leb 1 i && ltb i (blocks log)) accepted (refused 34 0))

abbrev pub or_none : Verdict → List ℕ → List ℕ
or_none accepted bytes = bytes
or_none (refused n i) bytes = []

-- "that stretch of the caller's log": "12 times the record count, from byte 8 of the block"; empty where it is
-- refused
unfoldable pub stretch : List ℕ → ℕ → List ℕ
stretch log i = or_none (block_asked log i) (take (12 * count (block log i)) (drop (512 * i + 8) log))
