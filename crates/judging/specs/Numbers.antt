-- What each refusal tells: "a definition gives this paper's number and values for each of its cases".
-- Assumes nothing.
use Rattle.std.specs.Prelude.{ℕ}
use Rattle.setups.specs.Numbers.{refusal_number}
use Rattle.judging.specs.declared.LogRefusal.{LogRefusal}
use Rattle.judging.specs.declared.LogRefusal.TheVariants.{WrongLength, WrongCheck, WrongPlace, WrongLayout}
use Rattle.judging.specs.declared.LogRefusal.TheVariants.{WrongSetup, NoSuchBlock}

-- "30: log length not 512 times 1 to 26", "31", "32", "33"; of the setup, 1 to 4; 34, "a record block asked for that
-- the log does not have"
abbrev pub log_number : LogRefusal → ℕ
log_number WrongLength = 30
log_number (WrongCheck i) = 31
log_number (WrongPlace i) = 32
log_number (WrongLayout i) = 33
log_number (WrongSetup e) = refusal_number e
log_number NoSuchBlock = 34

-- "the block for 31 to 33"
abbrev pub log_block : LogRefusal → ℕ
log_block WrongLength = 0
log_block (WrongCheck i) = i
log_block (WrongPlace i) = i
log_block (WrongLayout i) = i
log_block (WrongSetup e) = 0
log_block NoSuchBlock = 0
