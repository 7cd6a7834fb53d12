-- `face::verdict_on` meets its contract: a log has few blocks and records. Assumes nothing.
use Rattle.std.proofs.Common.{arith, sym}
use Rattle.logs.proofs.Rows.{column_most}
use Rattle.judging.proofs.Unique.{refused_small}
use Rattle.face.proofs.verdict_on.Goals as goal

pub overflow_cast-result : goal.overflow_cast-result
overflow_cast-result c =
    omega (arith, c.record_count.ensures, column_most 0 _ c.in-Ok.log.reads)

pub overflow_cast-result-in-Err : goal.overflow_cast-result-in-Err
overflow_cast-result-in-Err c =
    omega (arith, c.block.ensures, refused_small _ _ _ (sym c.in-Err.ensures.verdict))
