-- The state of a run taken apart. Assumes nothing.
use Rattle.rule.specs.State.{State}
use Rattle.legs.specs.Parts.{state_of}
use Rattle.engine.specs.declared.Live.{Live}

-- the state that the parts stand for
abbrev pub state : Live → State
state l = state_of l.setup l.cursor l.arrays
