-- `words::block_sum` meets its contract: the sum is that of the words passed, and 1, modulo 2 ^ 32. Assumes nothing.
use Rattle.std.proofs.Common.{arith, rules}
use Rattle.lists.specs.Lists.{total}
use Rattle.words.specs.Words.{words}
use Rattle.words.proofs.Words.{sum_more, sum_check}
use Rattle.words.proofs.block_sum.Goals as goal

pub loop-k-init : goal.loop-k-init
unfolding total words
loop-k-init c =
    search rules

pub loop-k-preserved : goal.loop-k-preserved
loop-k-preserved c =
    sum_more _ _ _ _ c.loop-k.invariant (search rules)

pub returns : goal.returns
returns c =
    sum_check _ _ _ c.loop-k.invariant (omega arith)
