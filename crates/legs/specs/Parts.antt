-- A run taken apart: its setup, a cursor of small numbers, and the arrays of the queue, of the ticks owed and given,
-- and of the completions. In order: the state of the parts; the cursor's moves. Assumes nothing.
use Rattle.std.specs.Prelude.{ℕ, ◌+◌, ◌-◌, ◌≤◌, ◌<◌, ◌≡◌, Bool, cond, ◌&&◌, List, eqb, leb}
use Rattle.lists.specs.Lists.{at}
use Rattle.rule.specs.State.{State}
use Rattle.rule.specs.Tick.{chosen, overdue, used_more_lem}
use Rattle.rule.specs.View.{Clear}
use Rattle.rule.specs.declared.Setup.{Setup}
use Rattle.line.specs.Places.{queue_at}
use Rattle.legs.specs.declared.Cursor.{Cursor}
use Rattle.legs.specs.declared.Arrays.{Arrays}

-- ---- the state of the parts

-- with this queue
abbrev pub with_queue : Setup → Cursor → List ℕ → List ℕ → List ℕ → List ℕ → State
with_queue p c queue o g d =
    record {
      setup = p;
      clock = c.clock;
      idle = c.idle;
      used = c.used;
      queue = queue;
      owed = o;
      given = g;
      done = d;
    }

-- with the queue that stands in the array q
abbrev pub parts : Setup → Cursor → List ℕ → List ℕ → List ℕ → List ℕ → State
parts p c q o g d = with_queue p c (queue_at p c.head c.queued q) o g d

-- the state that a cursor and the arrays make
abbrev pub state_of : Setup → Cursor → Arrays → State
state_of p c a = parts p c a.queue a.owed a.given a.done

-- What the parts keep besides: the array holds 0 behind the queue, and the task that is served stands at the head.
pub record Kept (p : Setup) (c : Cursor) (q : List ℕ) : Type 0 where
  pub tidy : Clear c.queued q
  pub inside : c.head ≤ c.queued - 1
  pub serves : 0 < c.queued → at q c.head ≡ chosen p (queue_at p c.head c.queued q)

-- ---- the cursor's moves

-- a turn comes, and the limit leaves it a whole slice
abbrev pub slice_due_lem : Setup → Cursor → ℕ → Bool
slice_due_lem p c limit = overdue p c.used && leb p.slice limit

abbrev pub next_place : Cursor → ℕ
next_place c = cond (eqb (c.head + 1) c.queued) 0 (c.head + 1)

unfoldable pub turned_to : Setup → Cursor → Cursor
turned_to p c =
    record {
      clock = c.clock;
      idle = c.idle;
      used = cond (overdue p c.used) 0 c.used;
      queued = c.queued;
      head = cond (overdue p c.used) (next_place c) c.head;
    }

-- n ticks to the head, of which none is the last that it is owed
unfoldable pub served_to : Setup → Cursor → ℕ → Cursor
served_to p c n =
    record {
      clock = c.clock + n;
      idle = c.idle;
      used = used_more_lem p c.used n;
      queued = c.queued;
      head = c.head;
    }

-- n idle ticks
unfoldable pub rested_to : Cursor → ℕ → Cursor
rested_to c n =
    record { clock = c.clock + n; idle = c.idle + n; used = c.used; queued = c.queued; head = c.head }
