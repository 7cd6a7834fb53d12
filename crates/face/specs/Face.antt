-- The C face's answers as plain numbers: 0 stands for what does not apply. Assumes nothing.
use Rattle.std.specs.Prelude.{ℕ, ◌≡◌, List, length}
use Rattle.rule.specs.Readings.{Reading, value, never, refused, Soonest, nothing, done}
use Rattle.rule.specs.Table.{Outcome, written}
use Rattle.judging.specs.Log as log
use Rattle.judging.specs.Log.{Verdict, accepted}
use Rattle.logs.specs.Records.{asked_times}
use Rattle.table.specs.Numbers.{TableTold, ended, refused_at}
use Rattle.table.specs.Answers.{answer_of}
use Rattle.face.specs.declared.ReadFace.{ReadFace}
use Rattle.face.specs.declared.NextFace.{NextFace}
use Rattle.face.specs.declared.OutcomeFace.{OutcomeFace}
use Rattle.face.specs.declared.VerdictFace.{VerdictFace}

-- a reading of a task: its number, 0 where it is accepted, and the value; a value of 0 is also "never"
abbrev pub read_face : Reading → ReadFace
read_face (value n) = record { refusal = 0; value = n }
read_face never = record { refusal = 0; value = 0 }
read_face (refused n) = record { refusal = n; value = 0 }

-- the next completion; at 0 where nothing is open
abbrev pub next_face : Soonest → NextFace
next_face nothing = record { task = 0; at = 0 }
next_face (done k t) = record { task = k; at = t }

-- a table: its number, the row, and the end
abbrev pub outcome_face : TableTold → OutcomeFace
outcome_face (refused_at n i) = record { refusal = n; place = i; end = 0 }
outcome_face (ended end) = record { refusal = 0; place = 0; end = end }

-- a log: its number, the block, and how many records it has
abbrev pub verdict_face : List ℕ → Verdict → VerdictFace
verdict_face bytes accepted = record { refusal = 0; place = 0; records = length (asked_times bytes) }
verdict_face bytes (log.refused n i) = record { refusal = n; place = i; records = 0 }

-- What `anduri_table` promises of its answer and of the result column.
pub record FaceAnswers (o : Outcome) (before : List ℕ) (r : OutcomeFace) (after : List ℕ) : Type 0 where
  pub answer : r ≡ outcome_face (answer_of o)
  pub column : after ≡ written o before
