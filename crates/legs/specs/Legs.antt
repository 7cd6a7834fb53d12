-- The next leg: ticks one after another to one task. In order: what it asks; how many ticks; the leg, and the ticks
-- owed and given after it. Assumes nothing.
use Rattle.std.specs.Prelude.{ℕ, ◌+◌, ◌-◌, ◌<◌, min, ◌≡◌, false, cond, List, length, take, set}
use Rattle.lists.specs.Lists.{at, times}
use Rattle.rule.specs.Setups.{is_priority}
use Rattle.rule.specs.declared.Setup.{Setup}
use Rattle.laws.specs.Sound.{Sliced}
use Rattle.legs.specs.Parts.{turned_to, Kept}
use Rattle.legs.specs.declared.Cursor.{Cursor}
use Rattle.legs.specs.declared.Leg.{Leg}

-- Something is open, and what the next leg reads of the parts.
pub record Ready (p : Setup) (c : Cursor) (q o : List ℕ) : Type 0 where
  pub kept : Kept p c q
  pub some : 0 < c.queued
  pub owed32 : length o ≡ 32
  pub sliced : is_priority p ≡ false → Sliced p c.used
  pub owing : (k : ℕ) → 0 < times k (take c.queued q) → 0 < at o k

-- How many ticks a task may have one after another: what it is owed, at most the limit, and under round robin at most
-- what its slice has left.
unfoldable pub at_once : Setup → ℕ → ℕ → ℕ → ℕ
at_once p used owed limit = cond (is_priority p) (min owed limit) (min (min owed limit) (p.slice - used))

-- The next leg: the cursor after the turn, the task at its head, what it is owed, and how many ticks it gets.
unfoldable pub leg_of : Setup → Cursor → ℕ → List ℕ → List ℕ → Leg
leg_of p c limit q o =
    let r = turned_to p c in
    let task = at q r.head in
    record { cursor = r; task = task; owed = at o task; n = at_once p r.used (at o task) limit }

-- the ticks owed and given after it
abbrev pub owed_after : Leg → List ℕ → List ℕ
owed_after l o = set o l.task (at o l.task - l.n)

abbrev pub given_after : Leg → List ℕ → List ℕ
given_after l g = set g l.task (at g l.task + l.n)
