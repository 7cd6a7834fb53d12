-- Laws of a judged setup: an accepted one is what was asked for, and one outcome satisfies the promise. Assumes
-- nothing.
use Rattle.std.specs.Prelude.{◌≡◌, Result, Ok}
use Rattle.std.proofs.Common.{sym, ◌∙◌}
use borrow.Author.Tests.{eq-eqb}
use Rattle.lists.proofs.Testing.{cond-true}
use Rattle.rule.specs.Setups.{setup_refusal_lem, plain}
use Rattle.rule.specs.View.{Determined}
use Rattle.rule.specs.declared.Setup.{Setup}
use Rattle.setups.specs.Judging.{JudgesSetup}
use Rattle.setups.specs.declared.SetupRefusal.{SetupRefusal}
use Rattle.setups.proofs.Numbers.{setup_answer_one}

pub judged_accepted : {p : Setup} {r : Result Setup SetupRefusal} → JudgesSetup p r → setup_refusal_lem p ≡ 0 → r ≡ Ok p
judged_accepted {p} {r} h z =
    setup_answer_one plain r (Ok p) (h.number ∙ z)
    (h.given ∙ cond-true p plain (eq-eqb (setup_refusal_lem p) 0 z))

pub judged_determined : (p : Setup) → Determined (JudgesSetup p)
judged_determined p x y a b = setup_answer_one plain x y (a.number ∙ sym b.number) (a.given ∙ sym b.given)
