-- `words::block_sum` meets its contract: the sum is that of the words passed, and 1, modulo 2 ^ 32. Assumes nothing.
use Rattle.std.proofs.Common.{◌≡◌, ◌+◌, ◌%◌}
use Rattle.lists.specs.Lists.{total}
use Rattle.words.specs.Words.{words}
use Rattle.words.proofs.block_sum.Given as goal

abbrev pub invariant-loop-k : goal.invariant-loop-k
invariant-loop-k l = l.sum ≡ (total (words l.k l.block) + 1) % 4_294_967_296
