-- No two different outcomes satisfy the promise of a function on a run that is lent, and a refusal leaves the very
-- run. In order: calls; setting up anew. Assumes nothing.
use Rattle.std.specs.Prelude.{◌≡◌, Result, Ok}
use Rattle.std.proofs.Common.{refl, sym, ◌∙◌}
use Rattle.lists.proofs.Testing.{equal-or}
use Rattle.rule.specs.Setups.{setup_refusal_lem}
use Rattle.rule.specs.State.{fresh}
use Rattle.rule.specs.Calls.{Call}
use Rattle.rule.specs.View.{MadeRun, Promised, Determined}
use Rattle.rule.specs.declared.Setup.{Setup}
use Rattle.rule.specs.declared.Run.{Run}
use Rattle.laws.proofs.Unique.{shows_determined, promised_refused}
use Rattle.setups.specs.Numbers.{setup_number}
use Rattle.setups.specs.declared.SetupRefusal.{SetupRefusal}
use Rattle.setups.proofs.Numbers.{setup_number_determined}
use Rattle.requests.specs.Numbers.{call_number}
use Rattle.requests.specs.declared.CallRefusal.{CallRefusal}
use Rattle.requests.proofs.Numbers.{call_number_determined}
use Rattle.tracker.specs.Restarted.{Restarted}

-- ---- calls

pub call_in_determined : (before : Run) (c : Call)
    → Determined (λ (o : Result (Unit {0}) CallRefusal × Run). Promised before c (call_number o.0) o.1)
call_in_determined before c x y a b =
    λ i. (call_number_determined _ x.0 y.0 a.answer b.answer i, shows_determined _ x.1 y.1 a.run b.run i)

pub call_in_refused : (before : Run) (c : Call) (answer : Result (Unit {0}) CallRefusal) (after : Run) → MadeRun before
    → Promised before c (call_number answer) after → (answer ≡ Ok tt → ⊥) → after ≡ before
call_in_refused before c answer after m p w =
    promised_refused before c (call_number answer) after m.tidy p
    (λ z. w (call_number_determined 0 answer (Ok tt) z refl))

-- ---- setting up anew

pub setup_in_determined : (before : Run) (p : Setup)
    → Determined (λ (o : Result (Unit {0}) SetupRefusal × Run). Restarted before p (setup_number o.0) o.1)
setup_in_determined before p x y a b = λ i. (answers i, runs i)
  where
    answers : x.0 ≡ y.0
    answers = setup_number_determined _ x.0 y.0 a.answer b.answer

    runs : x.1 ≡ y.1
    runs =
        equal-or (setup_refusal_lem p) 0
        (λ e. shows_determined (fresh p) x.1 y.1 (a.anew e) (b.anew e))
        (λ w. a.kept w ∙ sym (b.kept w))

pub setup_in_refused : (before : Run) (p : Setup) (answer : Result (Unit {0}) SetupRefusal) (after : Run)
    → Restarted before p (setup_number answer) after → (answer ≡ Ok tt → ⊥) → after ≡ before
setup_in_refused before p answer after h w =
    h.kept (λ e. w (setup_number_determined 0 answer (Ok tt) (h.answer ∙ e) refl))
