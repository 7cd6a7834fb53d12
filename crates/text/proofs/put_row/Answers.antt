-- `text::put_row` meets its contract: five cells. Assumes nothing.
use native.Mathlib.Omega.{arith}
use Rattle.cells.proofs.Pages.{put_then, put_as}
use Rattle.text.proofs.Lines.{row_line_cells}
use Rattle.text.proofs.put_row.Goals as goal

pub returns : goal.returns
returns c =
    let two = put_then c.put_cell.ensures c.put_cell-2.ensures in
    let three = put_then two c.put_cell-3.ensures in
    let four = put_then three c.put_cell-4.ensures in
    put_as (put_then four c.put_cell-5.ensures) (row_line_cells _ _ _ _ _) (omega arith)
