-- What setting up anew a run that is kept promises. Assumes nothing.
use Rattle.std.specs.Prelude.{ℕ, ◌≡◌}
use Rattle.rule.specs.Setups.{setup_refusal_lem}
use Rattle.rule.specs.State.{fresh}
use Rattle.rule.specs.View.{Shows}
use Rattle.rule.specs.declared.Setup.{Setup}
use Rattle.rule.specs.declared.Run.{Run}

-- A setup's number (0: accepted) and the run afterwards: the fresh run of the setup; "A refusal .. changes no run".
pub record Restarted (before : Run) (p : Setup) (number : ℕ) (after : Run) : Type 0 where
  pub answer : number ≡ setup_refusal_lem p
  pub anew : setup_refusal_lem p ≡ 0 → Shows after (fresh p)
  pub kept : (setup_refusal_lem p ≡ 0 → ⊥) → after ≡ before
