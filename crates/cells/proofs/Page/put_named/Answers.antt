-- `cells::Page::put_named` meets its contract: the bytes, and then the cell. Assumes nothing.
use Rattle.cells.proofs.Pages.{put_then}
use Rattle.cells.proofs.Page.put_named.Goals as goal

pub returns : goal.returns
returns c = put_then c.put_all.ensures c.put_cell.ensures
