-- `rows::run_rows` meets its contract: the invariant is kept by a row that is accepted, and gives each end (Running).
use mathlib.Core.Path.{refl}
use mathlib.Core.Path.{refl}
use Rattle.rows.proofs.Running.{going_start, going_known, going_step, going_refused, going_room, going_end}
use Rattle.rows.proofs.run_rows.Goals as goal

pub loop-i-init : goal.loop-i-init
loop-i-init c = going_start c.fresh-live.ensures refl

pub drain-requires : goal.drain-requires
drain-requires c = going_room c.loop-i.invariant c.loop-i.live.sound

pub returns : goal.returns
returns c = going_end c.loop-i.invariant c.loop-i-test.false c.args.setup c.requires.fitted c.drain.ensures

pub returns-in-Err : goal.returns-in-Err
returns-in-Err c =
    going_refused c.loop-i.invariant c.loop-i-test.true c.args.setup c.requires.fitted refl
    c.in-Err.ensures c.in-Err.refusal refl

pub note-requires-clause-task_bound : goal.note-requires-clause-task_bound
note-requires-clause-task_bound c =
    going_known c.loop-i.invariant c.loop-i-test.true c.args.setup c.requires.fitted refl
    c.in_default.ensures refl c.loop-i.live.sound

pub loop-i-preserved : goal.loop-i-preserved
loop-i-preserved c =
    going_step c.loop-i.invariant c.loop-i-test.true c.args.setup c.requires.fitted refl
    c.in_default.ensures refl c.loop-i.live.sound c.requires.times_in_bounds c.note.ensures.last_after
    c.note.ensures.noted_after
