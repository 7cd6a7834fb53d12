-- What the public functions on a run's parts promise. In order: moves of the clock; a request; the next completion; a
-- run taken apart. Assumes nothing.
use Rattle.std.specs.Prelude.{ℕ, ◌≡◌, cond, List, eqb}
use Rattle.rule.specs.State.{State}
use Rattle.rule.specs.Calls.{moved, opened, request_refusal}
use Rattle.rule.specs.View.{view}
use Rattle.rule.specs.declared.Setup.{Setup}
use Rattle.rule.specs.declared.Run.{Run}
use Rattle.laws.specs.Sound.{Sound}
use Rattle.laws.specs.Next.{DoneNext}
use Rattle.legs.specs.Parts.{parts, Kept}
use Rattle.legs.specs.declared.Cursor.{Cursor}
use Rattle.engine.specs.declared.NextDone.{NextDone}

-- ---- moves of the clock

-- The parts stand for the state aim.
pub record Reached (p : Setup) (r : Cursor) (q : List ℕ) (aim after : State) : Type 0 where
  pub kept : Kept p r q
  pub sound : Sound after
  pub shown : after ≡ aim

-- ---- a request

-- What a request leaves of the parts' state. Accepted, it has opened the task. Refused by 10 to 13, it has changed
-- nothing. Refused by 14, it has moved the clock: a table stops there.
unfoldable pub after_ask : State → ℕ → ℕ → ℕ → State
after_ask s t k a =
    cond (eqb (request_refusal s t k a) 0) (opened (moved s t) k a)
    (cond (eqb (request_refusal s t k a) 14) (moved s t) s)

-- A request's answer, and what it leaves.
pub record Asks (t k a number : ℕ) (before after : State) : Type 0 where
  pub answer : number ≡ request_refusal before t k a
  pub left : after ≡ after_ask before t k a

-- ---- the next completion

-- The parts are those of a sound state, whatever was given and done.
pub record Owing (p : Setup) (c : Cursor) (q o : List ℕ) : Type 0 where
  pub given : List ℕ
  pub done : List ℕ
  pub sound : Sound (parts p c q o given done)

-- "the task that would be done next and when, if nothing more were asked"
abbrev pub SoonestIs : Setup → Cursor → List ℕ → List ℕ → NextDone → Type 0
SoonestIs p c q o r = (g d : List ℕ) → Sound (parts p c q o g d) → DoneNext (parts p c q o g d) r.task r.time

-- ---- a run taken apart

-- With the cursor, the run's arrays are parts that stand for the run's state.
pub record Apart (run : Run) (r : Cursor) : Type 0 where
  pub kept : Kept run.setup r run.queue
  pub queued : r.queued ≡ run.queued
  pub shown : parts run.setup r run.queue run.owed run.given run.done ≡ view run
