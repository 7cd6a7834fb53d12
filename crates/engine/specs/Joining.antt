-- What the functions inside promise of a task that joins. Primed names are arrays afterwards. Assumes nothing.
use Rattle.std.specs.Prelude.{ℕ, ◌≡◌, cond, List}
use Rattle.rule.specs.Setups.{is_priority}
use Rattle.rule.specs.Calls.{opened}
use Rattle.rule.specs.declared.Setup.{Setup}
use Rattle.legs.specs.Parts.{parts, Kept}
use Rattle.legs.specs.declared.Cursor.{Cursor}

-- the queue from place 0 on, under both policies
unfoldable pub straight_to : Setup → Cursor → Cursor
straight_to p c =
    record {
      clock = c.clock;
      idle = c.idle;
      used = c.used;
      queued = c.queued;
      head = cond (is_priority p) c.head 0;
    }

-- The task has joined the back of the queue, whatever was given and done.
pub record Opens (p : Setup) (c : Cursor) (task amount : ℕ) (q o : List ℕ) (r : Cursor) (q' o' : List ℕ) : Type 0 where
  pub kept : Kept p r q'
  pub shown : (g d : List ℕ) → parts p r q' o' g d ≡ opened (parts p c q o g d) task amount
