-- The head is found among the run's tasks; the rest of the cursor is the run's (Assembly).
use Rattle.engine.proofs.Assembly.{run_tasks, apart}
use Rattle.engine.proofs.cursor_of.Goals as goal

pub head_of-requires-clause-tasks : goal.head_of-requires-clause-tasks
head_of-requires-clause-tasks c = run_tasks c.args.run.now c.requires.tidy c.requires.sound

pub returns : goal.returns
returns c =
    apart c.args.run.now c.requires.tidy _ c.head_of.ensures
