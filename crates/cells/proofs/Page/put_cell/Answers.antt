-- `cells::Page::put_cell` meets its contract: the digits, and then the byte. Assumes nothing.
use native.Mathlib.Omega.{arith}
use mathlib.Core.Path.{refl}
use Rattle.cells.proofs.Decimals.{decimal_few}
use Rattle.cells.proofs.Pages.{put_then, put_as, room_behind}
use Rattle.cells.proofs.Page.put_cell.Goals as goal

pub put_decimal-requires : goal.put_decimal-requires
put_decimal-requires c = omega (arith, decimal_few _ c.ranges.n.fits, c.requires)

pub put_byte-requires : goal.put_byte-requires
put_byte-requires c = room_behind c.put_decimal.ensures 1 (omega (arith, decimal_few _ c.ranges.n.fits, c.requires))

pub returns : goal.returns
returns c =
    put_as (put_then c.put_decimal.ensures c.put_byte.ensures) refl (omega (arith, decimal_few _ c.ranges.n.fits))
