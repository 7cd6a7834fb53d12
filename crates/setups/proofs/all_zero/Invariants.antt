-- `setups::all_zero` meets its contract. The invariant: whether the bytes are 0 is whether those from the loop's place on
-- are. Assumes nothing.
use Rattle.std.proofs.Common.{◌≡◌, drop}
use Rattle.lists.specs.Lists.{zeros}
use Rattle.setups.proofs.all_zero.Given as goal

abbrev pub invariant-loop-byte : goal.invariant-loop-byte
invariant-loop-byte l = zeros (drop l.byte-index l.bytes) ≡ zeros l.bytes
