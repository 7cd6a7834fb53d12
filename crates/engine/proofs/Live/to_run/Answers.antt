-- The queue is put straight, and the run together (Assembly).
use native.Mathlib.Omega.{arith}
use mathlib.Core.Path.{ap}
use Rattle.engine.specs.Joining.{straight_to}
use Rattle.legs.specs.declared.Cursor.{Cursor}
use Rattle.engine.proofs.Assembly.{together}
use Rattle.engine.proofs.Live.to_run.Goals as goal

pub overflow_cast-result : goal.overflow_cast-result
unfolding straight_to
overflow_cast-result c =
    let v = c.straightened-cursor.ensures.value in
    omega (arith, ap (λ (x : Cursor). x.idle) v, ap (λ (x : Cursor). x.clock) v, c.args.self.now.sound.spent)

pub returns : goal.returns
returns c =
    together c.args.self.now.kept c.straightened-cursor.ensures.value c.straightened-cursor.ensures.queue_after
