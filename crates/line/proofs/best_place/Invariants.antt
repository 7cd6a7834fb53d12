-- Invariant: the best of the places passed (Heads). Measure: the places left.
use Prim.Native.Nat.{◌-◌}
use Rattle.line.proofs.Heads.{Scanned}
use Rattle.line.proofs.best_place.Given as goal

abbrev pub invariant-loop-k : goal.invariant-loop-k
invariant-loop-k l = Scanned l.priority l.n l.queue l.place l.task l.top l.k

abbrev pub decreases-loop-k : goal.decreases-loop-k
decreases-loop-k l = l.n - l.k
