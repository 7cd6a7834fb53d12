-- Under priority nothing moves.
use mathlib.Core.Path.{sym, ◌∙◌}
use Rattle.line.proofs.Queues.{straight_same}
use Rattle.engine.proofs.opening.straightened.Goals as goal

pub returns-then-is_priority-clause-queue_after : goal.returns-then-is_priority-clause-queue_after
returns-then-is_priority-clause-queue_after c =
    straight_same c.args.p.now c.args.c.head c.args.c.queued c.args.queue.now (sym c.is_priority.ensures ∙ c.if-is_priority.true)
