-- Document 01, "Calls on a run", the readings that are not fields of the state: those of a task, and the next
-- completion. Assumes nothing.
use Rattle.std.specs.Prelude.{ℕ, zero, suc, cond, List, [], ◌∷◌, leb, eqb}
use Rattle.lists.specs.Lists.{at, total}
use Rattle.rule.specs.State.{State}
use Rattle.rule.specs.Tick.{tick}

-- ---- a task

pub data Reading : Type 0 where
  value : ℕ → Reading
  never : Reading
  refused : ℕ → Reading

-- "A task reading: 12."
abbrev pub of_task : State → ℕ → Reading → Reading
of_task s k r = cond (leb s.setup.count k) (refused 12) r

-- "ticks owed (0 if not open), ticks given since the start, latest completion or never"
abbrev pub owed_of_lem : State → ℕ → Reading
owed_of_lem s k = of_task s k (value (at s.owed k))

abbrev pub given_of : State → ℕ → Reading
given_of s k = of_task s k (value (at s.given k))

abbrev pub completed_of_lem : State → ℕ → Reading
completed_of_lem s k = of_task s k (cond (eqb (at s.done k) 0) never (value (at s.done k)))

-- ---- "the task that would be done next and when, if nothing more were asked, or .. that nothing is open"

pub data Soonest : Type 0 where
  nothing : Soonest
  done : ℕ → ℕ → Soonest  -- the task, and when

abbrev pub or_else : Soonest → Soonest → Soonest
or_else nothing n = n
or_else (done k t) n = done k t

-- of the tasks from i on with these completions, the first that was done at t
unfoldable pub done_at : ℕ → ℕ → List ℕ → Soonest
done_at t i [] = nothing
done_at t i (d ∷ ds) = cond (eqb d t) (done i t) (done_at t (suc i) ds)

-- the first of the next n ticks at whose end a task is done
unfoldable pub done_within : ℕ → State → Soonest
done_within zero s = nothing
done_within (suc n) s = or_else (done_at (tick s).clock 0 (tick s).done) (done_within n (tick s))

-- all are done when the ticks owed have been given
unfoldable pub next_done_lem : State → Soonest
next_done_lem s = done_within (total s.owed) s
