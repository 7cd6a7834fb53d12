-- `judging::setup_asked` meets its contract: a log that reads has a block. Assumes nothing.
use Rattle.std.specs.Prelude.{ℕ, ◌≡◌, List, length, take}
use Rattle.std.proofs.Common.{arith, sym}
use Rattle.std.proofs.lemmas.List.{length-take-le}
use Rattle.judging.specs.Log.{Reads}
use Rattle.judging.proofs.Accepted.{accepted_sized}
use Rattle.judging.proofs.setup_asked.Goals as goal

first_block : (log : List ℕ) → Reads log → length (take 512 log) ≡ 512
first_block log r = length-take-le 512 log (omega (arith, accepted_sized log r))

pub slice_bounds-asked_in-end : goal.slice_bounds-asked_in-end
slice_bounds-asked_in-end c = sym (first_block _ c.requires)

pub asked_in-requires : goal.asked_in-requires
asked_in-requires c = first_block _ c.requires
