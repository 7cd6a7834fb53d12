-- `report::report` meets its contract: a log that reads is put as its table, a refused one as its line.
-- Assumes nothing.
use native.Mathlib.Omega.{arith}
use mathlib.Core.Path.{sym}
use Rattle.cells.proofs.Writing.{wrote_same_upto}
use Rattle.judging.proofs.Unique.{refused_small}
use Rattle.report.proofs.Logs.{refused_text}
use Rattle.report.proofs.report.Goals as goal

pub overflow_cast-block : goal.overflow_cast-block
overflow_cast-block c =
    omega (arith, refused_small c.args.log.now _ _ (sym c.in-Err.ensures.verdict), c.block.ensures)

pub returns-in-Err : goal.returns-in-Err
returns-in-Err c =
    wrote_same_upto
    (refused_text _ _ _ (sym c.in-Err.ensures.verdict))
    (rw (c.number.ensures, c.block.ensures) at c.put_refused.ensures)
