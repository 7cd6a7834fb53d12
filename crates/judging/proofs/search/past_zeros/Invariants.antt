-- `judging::search::past_zeros` meets its contract: what is passed is zero. Assumes nothing.
use Rattle.std.specs.Prelude.{◌≡◌, length}
use Rattle.lists.specs.Lists.{zeros}
use Rattle.judging.proofs.search.past_zeros.Given as goal

abbrev pub invariant-loop-eight : goal.invariant-loop-eight
invariant-loop-eight l = zeros l.rest ≡ zeros l.bytes

abbrev pub decreases-loop-eight : goal.decreases-loop-eight
decreases-loop-eight l = length l.rest
