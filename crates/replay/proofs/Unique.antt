-- No two different outcomes satisfy the promise of a public function here. Assumes nothing.
use Rattle.std.specs.Prelude.{Result}
use Rattle.std.specs.Result.{result_unwrap_or}
use Rattle.std.proofs.Common.{sym, ◌∙◌}
use Rattle.rule.specs.Calls.{Call}
use Rattle.rule.specs.View.{Started, Promised, Determined}
use Rattle.rule.specs.declared.Setup.{Setup}
use Rattle.rule.specs.declared.Run.{Run}
use Rattle.laws.proofs.Unique.{shows_determined}
use Rattle.setups.specs.Numbers.{setup_number}
use Rattle.setups.specs.declared.SetupRefusal.{SetupRefusal}
use Rattle.setups.proofs.Numbers.{setup_answer_one}
use Rattle.requests.specs.Numbers.{call_number}
use Rattle.requests.specs.declared.CallRefusal.{CallRefusal}
use Rattle.requests.proofs.Numbers.{call_answer_one}
use Rattle.replay.specs.Answers.{plain_run}

pub setup_determined : (p : Setup)
    → Determined (λ (r : Result Run SetupRefusal). Started p (setup_number r) (result_unwrap_or r plain_run))
setup_determined p x y a b =
    setup_answer_one plain_run x y (a.answer ∙ sym b.answer) (shows_determined _ _ _ a.run b.run)

pub call_determined : (run : Run) (c : Call)
    → Determined (λ (r : Result Run CallRefusal). Promised run c (call_number r) (result_unwrap_or r run))
call_determined run c x y a b =
    call_answer_one run x y (a.answer ∙ sym b.answer) (shows_determined _ _ _ a.run b.run)
