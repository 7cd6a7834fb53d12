-- The logs worked by hand come out as they are said to: antt computes them, the logs of 26 blocks by themselves.
-- In order: what is computed with, in groups; the cases. Assumes nothing.
use Prim.Native.Nat.{ℕ}
use mathlib.Core.Path.{◌≡◌, refl}
use mathlib.Core.List.{List, ◌++◌, map}
use Rattle.lists.specs.Lists.{total, without, zeros}
use Rattle.words.specs.Words.{word, words, check}
use Rattle.rule.specs.Setups.{slice_fits_lem, bytes_fit_lem, setup_refusal_lem}
use Rattle.rule.specs.State.{State}
use Rattle.rule.specs.Tick.{before, best, chosen, overdue, head_back, turn, used_more_lem, give, rest, serve}
use Rattle.rule.specs.Tick.{tick_on, tick, ticks}
use Rattle.rule.specs.Calls.{moved, drained, opened, Call, effect, request_refusal, advance_refusal, refusal, call}
use Rattle.rule.specs.Calls.{calls}
use Rattle.rule.specs.Table.{Outcome, completion, completions, unless_refused, outcome_from, rows}
use Rattle.judging.specs.Blocks.{length_fits, check_fits, place_fits, setup_in_lem, records_to, count_fits, unused_zero}
use Rattle.judging.specs.Blocks.{layout_fits}
use Rattle.judging.specs.Log.{Verdict, block_refusal_lem, judged_from, judged}
use Rattle.logs.specs.Records.{entries, column_from, column, found, block_asked, stretch}
use Rattle.places.specs.Places.{taken_at, setup_at_lem}
use Rattle.reader.specs.Reading.{nexts}
use Rattle.cells.specs.Decimal.{digits}
use Rattle.text.specs.Text.{row_line, row_lines, end_line, table_text, refused_line}
use Rattle.report.specs.Report.{log_outcome, table_printed, printed, report_text}
use Rattle.worked.specs.Made.{Case}
use Rattle.worked.specs.Limits.{lengths, checks, places, layout, records}
use Rattle.worked.specs.Orders.{orders}
use Rattle.worked.specs.Readings.{readings, rows_read, record_blocks}
use Rattle.worked.specs.Printed.{reports}

-- ---- what is computed with: a name of a group unfolds all that its line names

abbrev judging : List ℕ → Verdict
unfolding total zeros word words check slice_fits_lem bytes_fit_lem setup_refusal_lem length_fits check_fits place_fits setup_in_lem records_to
    count_fits unused_zero layout_fits block_refusal_lem judged_from judged
judging = judged

abbrev reading : ℕ → List ℕ → List ℕ
unfolding entries column_from column
reading = column

abbrev running : State → List Call → Outcome
unfolding total without before best chosen overdue head_back turn used_more_lem give rest serve tick_on tick ticks moved
    drained opened effect request_refusal advance_refusal refusal call calls completion completions unless_refused
    outcome_from
running = outcome_from

abbrev printing : List ℕ → List ℕ
unfolding digits row_line row_lines end_line table_text refused_line log_outcome table_printed printed report_text
printing = report_text

-- ---- the cases

abbrev AsSaid : List Case → Type 0
AsSaid cases = map (λ (c : Case). c.found) cases ≡ map (λ (c : Case). c.said) cases

pub logs_hold : AsSaid (lengths ++ checks ++ places ++ layout ++ orders)
unfolding judging
logs_hold = refl

pub records_hold : AsSaid records
unfolding judging
records_hold = refl

pub readings_hold : AsSaid (readings ++ rows_read ++ record_blocks)
unfolding judging reading found block_asked stretch taken_at setup_at_lem nexts
readings_hold = refl

pub reports_hold : AsSaid reports
unfolding judging reading rows running printing
reports_hold = refl
