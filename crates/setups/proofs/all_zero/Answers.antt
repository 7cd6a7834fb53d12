-- `setups::all_zero` meets its contract: what holds of the bytes from a place on holds of all. Assumes nothing.
use Rattle.std.proofs.Common.{sym, ◌∙◌}
use Rattle.lists.proofs.Zeros.{zeros_other, zeros_same, zeros_past}
use Rattle.setups.proofs.all_zero.Goals as goal

pub returns-then-byte-ne0 : goal.returns-then-byte-ne0
returns-then-byte-ne0 c =
    sym (zeros_other _ _ c.loop-byte-test.true c.if-byte-ne0.true) ∙ c.loop-byte.invariant

pub loop-byte-preserved : goal.loop-byte-preserved
loop-byte-preserved c =
    sym (zeros_same _ _ c.loop-byte-test.true c.if-byte-ne0.false) ∙ c.loop-byte.invariant

pub returns : goal.returns
returns c =
    sym (zeros_past _ _ c.loop-byte-test.false) ∙ c.loop-byte.invariant
