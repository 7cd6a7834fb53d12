-- A promise from what a run shows. Assumes nothing.
use native.Mathlib.Omega.{arith}
use mathlib.Core.Path.{◌≡◌, refl, sym, ◌∙◌}
use Rattle.std.specs.Prelude.{ℕ, Result, Err}
use Rattle.std.specs.Result.{result_unwrap_or}
use Rattle.rule.specs.Setups.{plain}
use Rattle.rule.specs.State.{State, fresh}
use Rattle.rule.specs.Calls.{Call, request, refusal, effect}
use Rattle.rule.specs.View.{view, Tidy, Shows, Promised}
use Rattle.rule.specs.declared.Run.{Run}
use Rattle.laws.proofs.Accepted.{refused_stays, accepted_acts, refusal_request}
use Rattle.laws.proofs.Unique.{shows_determined}
use Rattle.requests.specs.Numbers.{call_refusal_number, call_number}
use Rattle.requests.specs.declared.CallRefusal.{CallRefusal}
use Rattle.requests.proofs.Numbers.{call_refusal_some}
use Rattle.requests.proofs.Early.{early}
use Rattle.engine.proofs.Requests.{asks_early}
use Rattle.replay.specs.Answers.{plain_run}

pub shows_then : {r : Run} {s t : State} → Shows r s → s ≡ t → Shows r t
shows_then h e = record { tidy = h.tidy; shown = h.shown ∙ e }

pub shows_plain : (r : Run) → Shows r (fresh plain) → r ≡ plain_run
shows_plain r h =
    shows_determined (fresh plain) r plain_run h
    (record { tidy = record { fits = omega arith; whole = refl; clear = refl }; shown = refl })

pub refused_promised : {run : Run} (c : Call) {e : CallRefusal} {x : Result Run CallRefusal} → x ≡ Err e
    → call_refusal_number e ≡ refusal (view run) c → Tidy run
    → Promised run c (call_number x) (result_unwrap_or x run)
refused_promised {run} c {e} {x} is n t =
    rw is
    (record {
      answer = n;
      run = record {
        tidy = t;
        shown = sym (refused_stays (view run) c (λ z. omega (arith, call_refusal_some e, n, z)));
      };
    })

-- a request that is refused before the clock moves
pub early_promised : {run : Run} {t k a : ℕ} {e : CallRefusal} {x : Result Run CallRefusal} → x ≡ Err e
    → call_refusal_number e ≡ early (view run) t k a → Tidy run
    → Promised run (request t k a) (call_number x) (result_unwrap_or x run)
early_promised {run} {t} {k} {a} {e} is n tidy =
    refused_promised (request t k a) is
    ((asks_early n (λ z. omega (arith, call_refusal_some e, z))).answer ∙ sym (refusal_request (view run) t k a)) tidy

pub accepted_promised : {run : Run} (c : Call) {r : Run} → refusal (view run) c ≡ 0 → Shows r (effect (view run) c)
    → Promised run c 0 r
accepted_promised {run} c e h =
    record { answer = sym e; run = shows_then h (sym (accepted_acts (view run) c e)) }
