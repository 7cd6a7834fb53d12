-- Each turn is a leg of the waiting parts (Waits).
use native.Mathlib.Omega.{arith}
use mathlib.Core.Path.{refl}
use Rattle.engine.proofs.Waits.{waits_end, waits_step, waiting_ready, waiting_task, waiting_owes}
use Rattle.engine.proofs.Waits.{waiting_time, waiting_room, waiting_less}
use Rattle.engine.proofs.soonest.Goals as goal

pub next_leg-leg-requires : goal.next_leg-leg-requires
next_leg-leg-requires c = waiting_ready c.requires.owing c.loop-left.invariant

pub overflow_add-result : goal.overflow_add-result
overflow_add-result c =
    omega (arith, waiting_time c.requires.owing c.loop-left.invariant c.next_leg-leg.ensures)

pub returns-then-leg : goal.returns-then-leg
returns-then-leg c = λ g d S. waits_end (c.loop-left.invariant g d S) (omega arith) c.next_leg-leg.ensures c.if-leg.true

pub bounds-left-leg : goal.bounds-left-leg
bounds-left-leg c = waiting_task c.requires.owing c.loop-left.invariant c.next_leg-leg.ensures

pub overflow_sub-left : goal.overflow_sub-left
overflow_sub-left c = waiting_owes c.requires.owing c.loop-left.invariant c.next_leg-leg.ensures

pub bounds-left-leg-in-loop-left : goal.bounds-left-leg-in-loop-left
bounds-left-leg-in-loop-left c = waiting_task c.requires.owing c.loop-left.invariant c.next_leg-leg.ensures

pub served-c-requires : goal.served-c-requires
served-c-requires c =
    let O = c.requires.owing in
    let I = c.loop-left.invariant in
    record {
      n_bound = omega (arith, waiting_time O I c.next_leg-leg.ensures);
      room = waiting_room O I c.next_leg-leg.ensures;
    }

pub loop-left-smaller : goal.loop-left-smaller
loop-left-smaller c =
    waiting_less c.requires.owing c.loop-left.invariant c.next_leg-leg.ensures c.if-leg.false c.served-c.ensures

pub loop-left-preserved : goal.loop-left-preserved
loop-left-preserved c =
    λ g d S. waits_step (c.loop-left.invariant g d S) (omega arith) c.next_leg-leg.ensures c.if-leg.false c.served-c.ensures refl
