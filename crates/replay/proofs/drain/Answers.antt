-- `replay::drain` meets its contract: a made run has room for the ticks that it owes. Assumes nothing.
use Rattle.std.proofs.Common.{arith, sym, ap, ◌∙◌}
use Rattle.lists.specs.Lists.{total}
use Rattle.rule.specs.State.{State}
use Rattle.rule.specs.Calls.{drained, drain}
use Rattle.rule.specs.View.{view}
use Rattle.laws.proofs.Accepted.{refusal_drain, effect_drain}
use Rattle.laws.proofs.Made.{made_sound}
use Rattle.laws.proofs.Drains.{made_within}
use Rattle.replay.proofs.Calling.{shows_then, accepted_promised}
use Rattle.replay.proofs.drain.Goals as goal

pub of-live-requires-clause-sound : goal.of-live-requires-clause-sound
of-live-requires-clause-sound c = made_sound _ c.requires.made

pub drain-requires : goal.drain-requires
drain-requires c =
    let clock = ap (λ (s : State). s.clock) c.of-live.ensures in
    let owed = ap (λ (s : State). total s.owed) c.of-live.ensures in
    omega (arith, clock, owed, made_within _ c.requires.made)

pub returns : goal.returns
returns c =
    let run = c.args.run in
    accepted_promised drain (refusal_drain (view run))
    (shows_then c.to_run.ensures
    (c.drain.ensures ∙ ap drained c.of-live.ensures ∙ sym (effect_drain (view run))))
