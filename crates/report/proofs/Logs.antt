-- The text of a log: of one that reads, by its columns; of one that is refused. Assumes nothing.
use Prim.Native.Nat.{ℕ, ◌≤◌}
use native.Mathlib.Omega.{arith}
use mathlib.Core.Path.{◌≡◌, sym, ap, ◌∙◌}
use mathlib.Core.List.{List}
use lib.ListN.{length, take}
use lib.Seq.{take_all}
use Rattle.rule.specs.Table.{most_rows}
use Rattle.rule.specs.declared.Setup.{Setup}
use Rattle.laws.specs.Rows.{Tabled}
use Rattle.judging.specs.Log.{refused, judged, Reads}
use Rattle.logs.specs.Records.{setup_of_lem, asked_times, asked_tasks, asked_amounts}
use Rattle.logs.proofs.Setups.{accepted_setup}
use Rattle.logs.proofs.Rows.{column_most, column_same}
use Rattle.text.specs.Text.{refused_line}
use Rattle.report.specs.Filled.{Filled}
use Rattle.report.specs.Report.{log_outcome, rows_printed, printed, report_text}

-- ---- a log that reads

module _ (log : List ℕ) (h : Reads log) where
  module _ (p : Setup) (ts ks ms : List ℕ) (ep : p ≡ setup_of_lem log) (et : ts ≡ asked_times log) (ek : ks ≡ asked_tasks log)
      (em : ms ≡ asked_amounts log) where
    filled_tabled : Tabled p (length ts) (length ks) (length ms) most_rows
    filled_tabled =
        rw (ep, et, ek, em)
        record {
          fitted =
              record {
                setup = accepted_setup log h;
                tasks_equal = column_same log h 1 0;
                amounts_equal = column_same log h 2 0;
                few = column_most 0 log h;
              };
          fits = column_most 0 log h;
        }

    text_same : rows_printed p ts ks ms ≡ report_text log
    unfolding report_text printed log_outcome
    text_same = rw (ep, et, ek, em) (ap (printed log) (sym h))

  -- the columns that the log's rows were put into
  module _ {times tasks amounts : List ℕ} {n : ℕ} (F : Filled log n times tasks amounts)
      (e : n ≡ length (asked_times log)) where
    room : (column : List ℕ) → length column ≡ most_rows → n ≤ length column
    room column f = omega (arith, column_most 0 log h)

    pub times_room : n ≤ length times
    times_room = room times F.roomy.times_room

    pub tasks_room : n ≤ length tasks
    tasks_room = room tasks F.roomy.tasks_room

    pub amounts_room : n ≤ length amounts
    amounts_room = room amounts F.roomy.amounts_room

    times_are : take n times ≡ asked_times log
    times_are = F.times_same ∙ take_all n (asked_times log) (omega arith)

    tasks_are : take n tasks ≡ asked_tasks log
    tasks_are = F.tasks_same ∙ take_all n (asked_tasks log) (omega (arith, column_same log h 1 0))

    amounts_are : take n amounts ≡ asked_amounts log
    amounts_are = F.amounts_same ∙ take_all n (asked_amounts log) (omega (arith, column_same log h 2 0))

    module _ {p : Setup} (ep : p ≡ setup_of_lem log) where
      pub log_tabled : Tabled p (length (take n times)) (length (take n tasks)) (length (take n amounts)) most_rows
      log_tabled =
          filled_tabled p (take n times) (take n tasks) (take n amounts) ep times_are tasks_are amounts_are

      pub log_text : rows_printed p (take n times) (take n tasks) (take n amounts) ≡ report_text log
      log_text = text_same p (take n times) (take n tasks) (take n amounts) ep times_are tasks_are amounts_are

-- ---- a log that is refused

pub refused_text : (log : List ℕ) (n j : ℕ) → judged log ≡ refused n j → refused_line n j ≡ report_text log
unfolding report_text printed
refused_text log n j e = ap (printed log) (sym e)
