-- Document 01, "Setting up a run" and "The tick-by-tick rule": the state that the rule works on, in plain lists.
-- Assumes nothing.
use Rattle.std.specs.Prelude.{ℕ, Bool, List, [], replicate, ltb}
use Rattle.lists.specs.Lists.{at}
use Rattle.rule.specs.declared.Setup.{Setup}

pub record State : Type 0 where
  pub setup : Setup
  pub clock : ℕ
  pub idle : ℕ  -- "idle ticks"
  pub used : ℕ  -- "a count says how much of the head's slice is used"
  pub queue : List ℕ  -- "The open tasks stand in a queue", under both policies
  pub owed : List ℕ  -- for each of the 32 tasks: "ticks owed (0 if not open),
  pub given : List ℕ  -- ticks given since the start,
  pub done : List ℕ  -- latest completion or never", which is 0

-- "A fresh run has clock 0, nothing open, nothing given, and no task has a completion."
abbrev pub fresh : Setup → State
fresh p =
    record {
      setup = p;
      clock = 0;
      idle = 0;
      used = 0;
      queue = [];
      owed = replicate 32 0;
      given = replicate 32 0;
      done = replicate 32 0;
    }

-- "A task is open from its request until its amount has been given."
abbrev pub is_open : State → ℕ → Bool
is_open s k = ltb 0 (at s.owed k)
