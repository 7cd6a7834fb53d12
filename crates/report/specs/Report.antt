-- Document 01, "The printing program": what is printed for the bytes that were read. Assumes nothing.
use Rattle.std.specs.Prelude.{ℕ, List}
use Rattle.rule.specs.State.{fresh}
use Rattle.rule.specs.Table as rule
use Rattle.rule.specs.Table.{Outcome, finished, outcome_from, rows}
use Rattle.rule.specs.declared.Setup.{Setup}
use Rattle.judging.specs.Log.{Verdict, accepted, refused, judged}
use Rattle.logs.specs.Records.{setup_of_lem, asked_times, asked_tasks, asked_amounts, row_list}
use Rattle.text.specs.Text.{table_text, refused_line}

-- the table of a log that reads: "The run is fresh from the setup, rows are requested in order, then it drains."
unfoldable pub log_outcome : List ℕ → Outcome
log_outcome log = outcome_from (fresh (setup_of_lem log)) (row_list log)

-- "a header, one line a row .., and the end"; "A log .. whose table is [refused], gives the one line
-- `refused N at P`: P is the row for 10 to 14", for rows in columns of times, tasks and amounts
unfoldable pub table_printed : List ℕ → List ℕ → List ℕ → Outcome → List ℕ
table_printed ts ks ms (finished ds end) = table_text ks ts ms ds end
table_printed ts ks ms (rule.refused n row) = refused_line n row

-- the same of the outcome that these rows have from this setup
abbrev pub rows_printed : Setup → List ℕ → List ℕ → List ℕ → List ℕ
rows_printed p ts ks ms = table_printed ts ks ms (outcome_from (fresh p) (rows ts ks ms))

-- "A log that is refused .. gives the one line `refused N at P`: P is .. the block for 31 to 33, else 0."
unfoldable pub printed : List ℕ → Verdict → List ℕ
printed log accepted = table_printed (asked_times log) (asked_tasks log) (asked_amounts log) (log_outcome log)
printed log (refused n block) = refused_line n block

unfoldable pub report_text : List ℕ → List ℕ
report_text log = printed log (judged log)
