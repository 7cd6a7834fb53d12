-- The array without the task still holds tasks, so the head can be looked for in it.
use Rattle.line.proofs.Rings.{below_taken_out}
use Rattle.steps.proofs.finished.Goals as goal

pub head_of-head-requires-clause-tasks : goal.head_of-head-requires-clause-tasks
head_of-head-requires-clause-tasks c =
    rw c.take_out.ensures (below_taken_out 32 c.args.leg.cursor.head c.args.queue.now c.requires.tasks)
