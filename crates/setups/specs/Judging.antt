-- What judging a setup gives. Assumes nothing.
use Rattle.std.specs.Prelude.{◌≡◌, Result}
use Rattle.std.specs.Result.{result_unwrap_or}
use Rattle.rule.specs.Setups.{asked, setup_refusal_lem, plain, or_plain}
use Rattle.rule.specs.declared.Setup.{Setup}
use Rattle.setups.specs.Numbers.{setup_number}
use Rattle.setups.specs.declared.SetupRefusal.{SetupRefusal}
use Rattle.setups.specs.declared.Asked.{Asked}

-- the setup that is asked for
abbrev pub asked_by : Asked → Setup
asked_by a = asked a.policy a.count a.slice a.priorities.now

-- A setup's refusal (0: accepted), and the setup, or `plain` where it is refused.
pub record JudgesSetup (p : Setup) (r : Result Setup SetupRefusal) : Type 0 where
  pub number : setup_number r ≡ setup_refusal_lem p
  pub given : result_unwrap_or r plain ≡ or_plain p
