-- `replay::request` meets its contract: what is asked of the run taken apart. Assumes nothing.
use Rattle.std.specs.Prelude.{◌≡◌, Err}
use Rattle.std.proofs.Common.{sym, ap, ◌∙◌}
use Rattle.std.proofs.lemmas.Result.{err_from_is_err_and}
use Rattle.rule.specs.State.{State}
use Rattle.rule.specs.Calls.{request, request_refusal}
use Rattle.rule.specs.View.{view}
use Rattle.laws.proofs.Accepted.{refusal_request, effect_request}
use Rattle.laws.proofs.Made.{made_sound}
use Rattle.requests.specs.declared.CallRefusal.{CallRefusal}
use Rattle.engine.specs.Promises.{after_ask}
use Rattle.engine.proofs.Requests.{asked_taken}
use Rattle.replay.proofs.Calling.{shows_then, early_promised, refused_promised, accepted_promised}
use Rattle.replay.proofs.request.Goals as goal

pub returns-in_err-early_refusal : goal.returns-in_err-early_refusal
returns-in_err-early_refusal c =
    let p = err_from_is_err_and c.from_residual.result c.from_residual.ensures.1 in
    early_promised (p.1 ∙ ap (λ (e : CallRefusal). Err e) p.2) c.in_err-early_refusal.ensures c.requires.tidy

pub of-live-requires-clause-sound : goal.of-live-requires-clause-sound
of-live-requires-clause-sound c = made_sound _ c.requires.made

pub returns-in_err-ask : goal.returns-in_err-ask
returns-in_err-ask c =
    let run = c.args.run in
    let asked = c.args.asked in
    let p = err_from_is_err_and c.from_residual-in_err-ask.result c.from_residual-in_err-ask.ensures.1 in
    let number = ap (λ (s : State). request_refusal s asked.time asked.task asked.amount) c.of-live.ensures in
    refused_promised (request asked.time asked.task asked.amount) (p.1 ∙ ap (λ (e : CallRefusal). Err e) p.2)
    (c.in_err-ask.ensures.answer ∙ number ∙ sym (refusal_request (view run) asked.time asked.task asked.amount))
    c.requires.tidy

pub returns : goal.returns
returns c =
    let run = c.args.run in
    let asked = c.args.asked in
    let left = ap (λ (s : State). after_ask s asked.time asked.task asked.amount) c.of-live.ensures in
    let number = ap (λ (s : State). request_refusal s asked.time asked.task asked.amount) c.of-live.ensures in
    let taken : request_refusal (view run) asked.time asked.task asked.amount ≡ 0 =
    sym (c.in_ok-ask.ensures.answer ∙ number) in
    accepted_promised (request asked.time asked.task asked.amount)
    (refusal_request (view run) asked.time asked.task asked.amount ∙ taken)
    (shows_then c.to_run.ensures
    (c.in_ok-ask.ensures.left
    ∙ left
    ∙ asked_taken (view run) asked.time asked.task asked.amount taken
    ∙ sym (effect_request (view run) asked.time asked.task asked.amount)))
