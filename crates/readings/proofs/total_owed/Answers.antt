-- `readings::total_owed` meets its contract: the ticks owed of a made run fit into 32 bits. Assumes nothing.
use native.Mathlib.Omega.{arith}
use Rattle.laws.proofs.Drains.{made_within}
use Rattle.readings.proofs.total_owed.Goals as goal

pub total_of-requires : goal.total_of-requires
total_of-requires c = omega (arith, made_within _ c.requires.made)
