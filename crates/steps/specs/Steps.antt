-- What the functions promise. In order: the last ticks of a task; a step. Primed names are arrays afterwards. Assumes
-- nothing.
use Rattle.std.specs.Prelude.{ℕ, ◌+◌, ◌-◌, ◌≡◌, cond, List, length, set, eqb}
use Rattle.lists.specs.Lists.{at}
use Rattle.rule.specs.State.{State}
use Rattle.rule.specs.Tick.{chosen, turn, ticks}
use Rattle.rule.specs.declared.Setup.{Setup}
use Rattle.line.specs.Places.{taken_out, Heads}
use Rattle.legs.specs.Parts.{Kept}
use Rattle.legs.specs.Legs.{at_once}
use Rattle.legs.specs.declared.Cursor.{Cursor}

-- After the last n ticks that the task at the head was owed: it has left the queue, and is done.
pub record Finished (p : Setup) (c : Cursor) (task n : ℕ) (q d : List ℕ) (r : Cursor) (q' d' : List ℕ) : Type 0 where
  pub clock : r.clock ≡ c.clock + n
  pub idle : r.idle ≡ c.idle
  pub used : r.used ≡ 0
  pub queued : r.queued ≡ c.queued - 1
  pub head : Heads p c.head r.queued q' r.head
  pub left : q' ≡ taken_out c.head q
  pub done : d' ≡ set d task (c.clock + n)

-- "No call walks through the ticks one by one. Under round robin a step per slice is enough in the base." How many
-- ticks of a limit a step takes: with nothing open all, and else those that the task served after the turn may have at
-- once.
unfoldable pub stride : State → ℕ → ℕ
stride s limit =
    cond (eqb (length s.queue) 0) limit
    (at_once s.setup (turn s).used (at s.owed (chosen s.setup (turn s).queue)) limit)

-- The parts stand for the state after as many ticks.
pub record Stepped (p : Setup) (r : Cursor) (q : List ℕ) (limit : ℕ) (before after : State) : Type 0 where
  pub kept : Kept p r q
  pub shown : after ≡ ticks (stride before limit) before
