-- Laws of what setting up anew promises, from what a setup does. In order: accepted and refused; the run afterwards is
-- made where the run before is. Assumes nothing.
use Prim.Native.Nat.{ℕ}
use mathlib.Core.Path.{◌≡◌, refl, sym, ◌∙◌, subst}
use borrow.Author.Tests.{eq-eqb}
use Rattle.lists.proofs.Testing.{equal-or, cond-true}
use Rattle.rule.specs.Setups.{setup_refusal_lem, plain}
use Rattle.rule.specs.State.{fresh}
use Rattle.rule.specs.Calls.{Made}
use Rattle.rule.specs.View.{MadeRun, Shows, Started}
use Rattle.rule.specs.declared.Setup.{Setup}
use Rattle.rule.specs.declared.Run.{Run}
use Rattle.laws.proofs.Made.{made_fresh}
use Rattle.tracker.specs.Restarted.{Restarted}

module _ (before : Run) (p : Setup) (n : ℕ) (r : Run) (h : Started p n r) where
  pub restarted_accepted : n ≡ 0 → Restarted before p n r
  restarted_accepted z =
      record {
        answer = h.answer;
        anew = λ e. subst (λ (q : Setup). Shows r (fresh q)) (cond-true p plain (eq-eqb (setup_refusal_lem p) 0 e)) h.run;
        kept = λ w. absurd (w (sym h.answer ∙ z));
      }

  pub restarted_refused : (n ≡ 0 → ⊥) → Restarted before p n before
  restarted_refused z = record { answer = h.answer; anew = λ e. absurd (z (h.answer ∙ e)); kept = λ w. refl }

pub made_restarted : (before : Run) (p : Setup) (n : ℕ) (r : Run) → MadeRun before → Restarted before p n r → MadeRun r
made_restarted before p n r m h =
    equal-or (setup_refusal_lem p) 0
    (λ e.
    record { tidy = (h.anew e).tidy; made = subst Made (sym (h.anew e).shown) (made_fresh p e) })
    (λ w. subst MadeRun (sym (h.kept w)) m)
