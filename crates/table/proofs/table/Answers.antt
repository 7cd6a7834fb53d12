-- `table::table` meets its contract: refused by its setup, refused by its columns, or run with the setup that was asked
-- for (Answering).
use mathlib.Core.Path.{sym, ap}
use Rattle.std.specs.Result.{result_unwrap_or}
use Rattle.rule.specs.Setups.{plain}
use Rattle.setups.specs.Judging.{asked_by}
use Rattle.setups.proofs.Judging.{judged_accepted}
use Rattle.table.proofs.Answering.{table_misset, table_misfit, columns_tabled}
use Rattle.table.proofs.table.Goals as goal

pub returns-in_err-setup : goal.returns-in_err-setup
returns-in_err-setup c = table_misset _ _ _ _ _ _ c.in_err-setup.ensures.number c.from_residual.ensures.1

pub returns-in_err-column_refusal : goal.returns-in_err-column_refusal
returns-in_err-column_refusal c =
    table_misfit _ _ _ _ _ (sym c.in_ok-setup.ensures.number) _ c.in_err-column_refusal.ensures
    c.from_residual-in_err-column_refusal.ensures.1

pub run_table-requires : goal.run_table-requires
run_table-requires c =
    let fits = sym c.in_ok-setup.ensures.number in
    let is_asked = ap (λ r. result_unwrap_or r plain) (judged_accepted c.in_ok-setup.ensures fits) in
    rw is_asked
    (columns_tabled (asked_by c.args.wanted) _ _ _ _ fits (sym c.in_ok-column_refusal.ensures))
