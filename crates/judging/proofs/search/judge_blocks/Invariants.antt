-- `judging::search::judge_blocks` meets its contract. Outside, what is judged from the first block on is what is
-- judged from this one on; inside, the bytes are as zero as those from this one on. Assumes nothing.
use Rattle.std.specs.Prelude.{◌≡◌, ◌<◌, ◌*◌, ◌-◌, drop}
use Rattle.lists.specs.Lists.{zeros}
use Rattle.judging.specs.Blocks.{records_to}
use Rattle.judging.specs.Log.{judged_from}
use Rattle.judging.proofs.search.judge_blocks.Given as goal

abbrev pub invariant-loop-byte : goal.invariant-loop-byte
invariant-loop-byte l = zeros l.byte-items ≡ zeros (drop l.byte-index l.byte-items)

abbrev pub invariant-loop-block : goal.invariant-loop-block
invariant-loop-block l = (judged_from l.log 0 l.blocks ≡ judged_from l.log l.block (l.blocks - l.block))
    × (l.block < l.blocks → records_to l.log (l.block - 1) ≡ 41 * (l.block - 1))
