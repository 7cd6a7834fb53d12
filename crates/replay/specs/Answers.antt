-- What stands for the run of a refused setup. Assumes nothing.
use Rattle.std.specs.Prelude.{replicate}
use Rattle.rule.specs.Setups.{plain}
use Rattle.rule.specs.declared.Run.{Run}

-- The fresh run of `plain` (docs/DECISIONS.md, "A refused setup gives one fixed run").
abbrev pub plain_run : Run
plain_run =
    record {
      setup = plain;
      clock = 0;
      idle = 0;
      used = 0;
      queued = 0;
      queue = replicate 32 0;
      owed = replicate 32 0;
      given = replicate 32 0;
      done = replicate 32 0;
    }
