-- `report::put_run` meets its contract: what `table` answers is put as text. Assumes nothing.
use mathlib.Core.Path.{refl}
use Rattle.cells.proofs.Writing.{wrote_same_upto}
use Rattle.report.proofs.Reporting.{same_table, text_refused, after_part, text_finished}
use Rattle.report.proofs.put_run.Goals as goal

pub slice_bounds-put_table-end : goal.slice_bounds-put_table-end
slice_bounds-put_table-end c =
    after_part c.args.setup _ _ _ c.requires _ _ refl _ (same_table c.args.columns c.from.ensures c.in-Ok.ensures) _ refl

pub returns-in-Ok : goal.returns-in-Ok
returns-in-Ok c =
    wrote_same_upto
    (text_finished c.args.setup _ _ _ c.requires _ _ refl _ (same_table c.args.columns c.from.ensures c.in-Ok.ensures) _ refl)
    c.put_table.ensures

pub returns-in-Err : goal.returns-in-Err
returns-in-Err c =
    wrote_same_upto
    (text_refused c.args.setup _ _ _ c.requires _ _ refl _ (same_table c.args.columns c.from.ensures c.in-Err.ensures) _ _ refl)
    (rw (c.number.ensures, c.place.ensures) at c.put_refused.ensures)
