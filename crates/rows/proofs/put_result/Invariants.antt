-- The invariant: the first i entries are written, and no others (Putting).
use Rattle.rows.proofs.Putting.{Putting}
use Rattle.rows.proofs.put_result.Given as goal

abbrev pub invariant-loop-i : goal.invariant-loop-i
invariant-loop-i l = Putting l.tasks l.ran.last l.ran.done l.noted l.initial.res l.res l.i
