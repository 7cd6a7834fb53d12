-- `text::put_refused` meets its contract: two numbers with their names. Assumes nothing.
use native.Mathlib.Omega.{arith}
use Rattle.cells.proofs.Pages.{put_then, puts_as}
use Rattle.text.proofs.Lines.{refused_line_cells}
use Rattle.text.proofs.put_refused.Goals as goal

pub returns : goal.returns
returns c =
    let page = c.new-page.ensures in
    let line = put_then c.put_named.ensures c.put_named-2.ensures in
    puts_as line page.same_bytes page.start (refused_line_cells _ _) (omega arith)
