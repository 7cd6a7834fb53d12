-- `text::put_rows` meets its contract: one line after another. Assumes nothing.
use native.Mathlib.Omega.{arith}
use mathlib.Core.Path.{sym}
use Rattle.cells.proofs.Pages.{put_nothing, put_then, put_as}
use Rattle.text.proofs.Lines.{row_lines_none, row_lines_more}
use Rattle.text.proofs.put_rows.Goals as goal

pub loop-i-init : goal.loop-i-init
loop-i-init c = put_as (put_nothing _) (sym (row_lines_none _ _ _ _)) (omega arith)

pub loop-i-preserved : goal.loop-i-preserved
loop-i-preserved c =
    let line = rw c.row.ensures at c.put_row.ensures in
    put_as (put_then c.loop-i.invariant line) (sym (row_lines_more _ _ _ _ _)) (omega arith)
