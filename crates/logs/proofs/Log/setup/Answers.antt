-- `logs::Log::setup` meets its contract: the setup of a log that reads is accepted. Assumes nothing.
use Rattle.std.specs.Prelude.{◌≡◌, Result, Ok}
use Rattle.std.proofs.Common.{refl, sym, ap, ◌∙◌}
use Rattle.rule.specs.Setups.{setup_refusal_lem}
use Rattle.rule.specs.declared.Setup.{Setup}
use Rattle.setups.specs.Judging.{JudgesSetup}
use Rattle.setups.specs.declared.SetupRefusal.{SetupRefusal}
use Rattle.setups.proofs.Judging.{judged_accepted}
use Rattle.logs.specs.Records.{setup_of_lem}
use Rattle.logs.specs.declared.Log.{Log}
use Rattle.logs.proofs.Setups.{accepted_setup}
use Rattle.logs.proofs.Log.setup.Goals as goal

accepted : (log : Log) {p : Setup} {r : Result Setup SetupRefusal} → p ≡ setup_of_lem log.bytes.now → JudgesSetup p r
    → r ≡ Ok (setup_of_lem log.bytes.now)
accepted log e j =
    judged_accepted j (ap setup_refusal_lem e ∙ accepted_setup log.bytes.now log.reads) ∙ ap (λ (s : Setup). Ok s) e

pub unwrap-requires : goal.unwrap-requires
unwrap-requires c = rw (accepted c.args.self c.setup_asked.ensures c.judged_setup.ensures) refl

pub returns : goal.returns
returns c =
    let e = sym c.unwrap.ensures ∙ accepted c.args.self c.setup_asked.ensures c.judged_setup.ensures in
    cc
