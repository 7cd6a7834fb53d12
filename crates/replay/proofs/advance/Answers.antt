-- `replay::advance` meets its contract: refused by 10 or 11, or moved. Assumes nothing.
use Rattle.std.specs.Prelude.{Err}
use Rattle.std.proofs.Common.{arith, sym, ap, ◌∙◌}
use Rattle.std.proofs.lemmas.Result.{err_from_is_err_and}
use Rattle.rule.specs.State.{State}
use Rattle.rule.specs.Calls.{moved, advance}
use Rattle.rule.specs.View.{view}
use Rattle.laws.proofs.Accepted.{refusal_advance, effect_advance}
use Rattle.laws.proofs.Made.{made_sound}
use Rattle.requests.proofs.Early.{time_passed}
use Rattle.requests.specs.declared.CallRefusal.{CallRefusal}
use Rattle.replay.proofs.Calling.{shows_then, refused_promised, accepted_promised}
use Rattle.replay.proofs.advance.Goals as goal

pub returns-in_err-time_refusal : goal.returns-in_err-time_refusal
returns-in_err-time_refusal c =
    let run = c.args.run in
    let t = c.args.time in
    let p = err_from_is_err_and c.from_residual.result c.from_residual.ensures.1 in
    refused_promised (advance t) (p.1 ∙ ap (λ (e : CallRefusal). Err e) p.2)
    (c.in_err-time_refusal.ensures ∙ sym (refusal_advance (view run) t)) c.requires.tidy

pub of-live-requires-clause-sound : goal.of-live-requires-clause-sound
of-live-requires-clause-sound c = made_sound _ c.requires.made

pub walk-requires-clause-clock_le_time : goal.walk-requires-clause-clock_le_time
walk-requires-clause-clock_le_time c =
    let p = time_passed _ _ (sym c.in_ok-time_refusal.ensures) in
    let clock = ap (λ (s : State). s.clock) c.of-live.ensures in
    omega (arith, clock, p.1)

pub walk-requires-clause-time_le_last_clock : goal.walk-requires-clause-time_le_last_clock
walk-requires-clause-time_le_last_clock c =
    let p = time_passed _ _ (sym c.in_ok-time_refusal.ensures) in
    omega (arith, p.0)

pub returns : goal.returns
returns c =
    let run = c.args.run in
    let t = c.args.time in
    accepted_promised (advance t) (refusal_advance (view run) t ∙ sym c.in_ok-time_refusal.ensures)
    (shows_then c.to_run.ensures
    (c.walk.ensures ∙ ap (λ (s : State). moved s t) c.of-live.ensures ∙ sym (effect_advance (view run) t)))
