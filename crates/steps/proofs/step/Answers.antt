-- Idle ticks, a whole slice to a task that is owed more, or the next leg.
use native.Mathlib.Omega.{arith}
use mathlib.Core.Path.{sym, ◌∙◌}
use Rattle.legs.proofs.Legs.{ready, leads_slice, leg_known, leg_owed, leg_owes, leg_sliced, leg_time, leg_gives}
use Rattle.steps.proofs.Steps.{rested_stepped, served_stepped}
use Rattle.steps.proofs.step.Goals as goal

pub returns-then-c-eq0 : goal.returns-then-c-eq0
returns-then-c-eq0 c =
    rested_stepped c.requires.kept c.requires.sound c.if-c-eq0.true c.rested.ensures

pub next_leg-leg-requires : goal.next_leg-leg-requires
next_leg-leg-requires c =
    ready c.requires.kept c.requires.sound (omega arith)

pub given_to-requires : goal.given_to-requires
given_to-requires c =
    let r = c.requires in
    let due = sym c.slice_due.ensures ∙ c.if-slice_due.true in
    let L = leads_slice r.kept r.sound (omega arith) r.limit_nonzero due c.next_leg-leg.ensures in
    record { task_bound = leg_known L; n_bound = leg_owes L; n_bound_2 = leg_gives L r.limit_bound }

pub served-requires : goal.served-requires
served-requires c =
    let r = c.requires in
    let due = sym c.slice_due.ensures ∙ c.if-slice_due.true in
    let L = leads_slice r.kept r.sound (omega arith) r.limit_nonzero due c.next_leg-leg.ensures in
    record { n_bound = leg_time L r.limit_bound; room = leg_sliced L }

pub returns-then-leg : goal.returns-then-leg
returns-then-leg c =
    let r = c.requires in
    let due = sym c.slice_due.ensures ∙ c.if-slice_due.true in
    let L = leads_slice r.kept r.sound (omega arith) r.limit_nonzero due c.next_leg-leg.ensures in
    served_stepped L (omega (arith, leg_owed L, c.if-leg.true))
    c.served.ensures c.given_to.ensures.owed_after c.given_to.ensures.given_after
