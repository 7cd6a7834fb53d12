-- `places::start_of` meets its contract. Assumes nothing.
use mathlib.Core.Path.{ap}
use Rattle.places.specs.Places.{first_block}
use Rattle.places.proofs.start_of.Goals as goal

pub returns-in-Ok : goal.returns-in-Ok
returns-in-Ok c = record { verdict = c.judge-verdict.ensures; block = ap first_block c.in-Ok.ensures }

pub returns-in-Err : goal.returns-in-Err
returns-in-Err c = record { verdict = c.judge-verdict.ensures; block = ap first_block c.in-Err.ensures }
