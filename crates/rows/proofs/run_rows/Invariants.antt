-- The invariant: what is known of the run's state and of every row's completion after the first i rows (Running).
use Rattle.rule.specs.State.{fresh}
use Rattle.engine.specs.Live.{state}
use Rattle.rows.proofs.Running.{RowsGoing}
use Rattle.rows.proofs.run_rows.Given as goal

abbrev pub invariant-loop-i : goal.invariant-loop-i
invariant-loop-i l =
    let c = l.columns in
    RowsGoing c.times.now c.tasks.now c.amounts.now l.initial.noted (fresh l.fn.setup) (state l.live) l.last l.noted l.i
