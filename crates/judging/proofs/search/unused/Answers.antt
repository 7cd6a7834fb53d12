-- `judging::search::unused` meets its contract. Assumes nothing.
use Rattle.std.proofs.Common.{sym}
use Rattle.lists.proofs.Places.{drop_take}
use Rattle.judging.proofs.search.unused.Goals as goal

pub returns : goal.returns
returns c = rw c.first_unused.ensures (sym (drop_take _ 508 _ c.requires.1))
