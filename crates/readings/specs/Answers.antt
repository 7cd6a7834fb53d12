-- What each case of a reading's answer tells: "a definition gives this paper's number and values for each of its
-- cases". Assumes nothing.
use Rattle.std.specs.Prelude.{ℕ, Option, None, Some, Result, Ok, Err}
use Rattle.rule.specs.Readings.{Reading, value, never, refused, Soonest, nothing, done}
use Rattle.engine.specs.declared.NextDone.{NextDone}
use Rattle.readings.specs.declared.NoSuchTask.{NoSuchTask}

-- "A task reading: 12."
abbrev pub no_such_task_number : NoSuchTask → ℕ
no_such_task_number e = 12

-- ticks of a task
abbrev pub ticks_told : Result ℕ NoSuchTask → Reading
ticks_told (Ok n) = value n
ticks_told (Err e) = refused (no_such_task_number e)

-- a task's latest completion
abbrev pub completion_told : Result (Option ℕ) NoSuchTask → Reading
completion_told (Ok (Some t)) = value t
completion_told (Ok None) = never
completion_told (Err e) = refused (no_such_task_number e)

-- the next completion
abbrev pub next_told : Option NextDone → Soonest
next_told (Some d) = done d.task d.time
next_told None = nothing
