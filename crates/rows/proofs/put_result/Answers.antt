-- An entry more is written (Putting).
use Rattle.rows.proofs.Putting.{putting_step}
use Rattle.rows.proofs.put_result.Goals as goal

pub loop-i-preserved : goal.loop-i-preserved
loop-i-preserved c =
    putting_step c.loop-i.invariant c.one_of.ensures c.loop-i-test.true c.requires.tasks_in_bounds_2
