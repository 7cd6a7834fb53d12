-- Invariant: what is done next from here on is done next from the start on (Waits). Measure: the ticks left.
use Rattle.lists.specs.Lists.{total}
use Rattle.engine.proofs.Waits.{Waiting}
use Rattle.engine.proofs.soonest.Given as goal

abbrev pub invariant-loop-left : goal.invariant-loop-left
invariant-loop-left l = Waiting l.p l.initial.c l.c l.queue l.initial.left l.left

abbrev pub decreases-loop-left : goal.decreases-loop-left
decreases-loop-left l = total l.left
