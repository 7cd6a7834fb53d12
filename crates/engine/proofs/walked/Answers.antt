-- Each turn is a step of Walking (Walks).
use Rattle.engine.proofs.Walks.{walking_start, walking_step, walking_less, walking_end}
use Rattle.engine.proofs.walked.Goals as goal

pub loop-c-init : goal.loop-c-init
loop-c-init c =
    walking_start c.requires.kept c.requires.sound c.requires.clock_le_time

pub loop-c-smaller : goal.loop-c-smaller
loop-c-smaller c =
    walking_less c.loop-c.invariant c.loop-c-test.true c.step-c.ensures

pub loop-c-preserved : goal.loop-c-preserved
loop-c-preserved c =
    walking_step c.loop-c.invariant c.loop-c-test.true c.step-c.ensures

pub returns : goal.returns
returns c =
    walking_end c.loop-c.invariant c.loop-c-test.false
