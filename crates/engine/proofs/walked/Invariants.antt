-- Invariant: the parts stand for the state that comes of the first by ticks (Walks). Measure: the ticks to the time.
use Prim.Native.Nat.{◌-◌}
use Rattle.legs.specs.Parts.{state_of}
use Rattle.engine.proofs.Walks.{Walking}
use Rattle.engine.proofs.walked.Given as goal

abbrev pub invariant-loop-c : goal.invariant-loop-c
invariant-loop-c l =
    Walking l.time l.p (state_of l.p l.initial.c l.initial.arrays) l.c l.arrays.queue (state_of l.p l.c l.arrays)

abbrev pub decreases-loop-c : goal.decreases-loop-c
decreases-loop-c l = l.time - l.c.clock
