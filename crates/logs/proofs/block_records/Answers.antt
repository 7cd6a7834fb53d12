-- `logs::block_records` meets its contract: a block that may be asked for lies inside the log, with at most 41
-- records. Assumes nothing.
use Rattle.std.proofs.Common.{sym, arith}
use Rattle.logs.proofs.Asking.{given_room, stretch_given, stretch_refused}
use Rattle.logs.proofs.block_records.Goals as goal

pub overflow_mul-from : goal.overflow_mul-from
overflow_mul-from c = omega (arith, given_room c.args.log.now c.args.block c.in-Ok.ensures)

pub overflow_add-from : goal.overflow_add-from
overflow_add-from c = omega (arith, given_room c.args.log.now c.args.block c.in-Ok.ensures)

pub overflow_mul-block : goal.overflow_mul-block
overflow_mul-block c = omega (arith, given_room c.args.log.now c.args.block c.in-Ok.ensures)

pub overflow_add-block : goal.overflow_add-block
overflow_add-block c = omega (arith, given_room c.args.log.now c.args.block c.in-Ok.ensures)

pub returns-in-Ok : goal.returns-in-Ok
returns-in-Ok c = stretch_given _ _ _ (sym c.in-Ok.ensures) c.word_at.ensures

pub returns-in-Err : goal.returns-in-Err
returns-in-Err c = sym (stretch_refused _ _ _ _ (sym c.in-Err.ensures))
