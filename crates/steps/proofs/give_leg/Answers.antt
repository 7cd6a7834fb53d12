-- A leg that finishes its task, or one that does not: each is a law of Stepped.
use native.Mathlib.Omega.{arith}
use mathlib.Core.Path.{sym, ◌∙◌}
use Rattle.legs.proofs.Legs.{ready, kept_tasks, leads, leg_known, leg_owed, leg_owes, leg_sliced, leg_time, leg_gives}
use Rattle.legs.proofs.Legs.{leg_kept, leg_some}
use Rattle.steps.proofs.Steps.{finished_stepped, served_stepped}
use Rattle.steps.proofs.give_leg.Goals as goal

pub next_leg-leg-requires : goal.next_leg-leg-requires
next_leg-leg-requires c = ready c.requires.kept c.requires.sound c.requires.queued_nonzero

pub given_to-requires : goal.given_to-requires
given_to-requires c =
    let r = c.requires in
    let L = leads r.kept r.sound r.queued_nonzero r.limit_nonzero c.next_leg-leg.ensures in
    record { task_bound = leg_known L; n_bound = leg_owes L; n_bound_2 = leg_gives L r.limit_bound }

pub finished-requires : goal.finished-requires
finished-requires c =
    let r = c.requires in
    let L = leads r.kept r.sound r.queued_nonzero r.limit_nonzero c.next_leg-leg.ensures in
    record {
      n_bound = leg_time L r.limit_bound;
      kept = leg_kept L;
      queued_nonzero = leg_some L;
      tasks = kept_tasks r.kept r.sound;
      task_bound = leg_known L;
    }

pub returns-then-leg : goal.returns-then-leg
returns-then-leg c =
    let r = c.requires in
    let L = leads r.kept r.sound r.queued_nonzero r.limit_nonzero c.next_leg-leg.ensures in
    finished_stepped L c.finished.ensures (sym (leg_owed L) ∙ c.if-leg.true)
    c.given_to.ensures.owed_after c.given_to.ensures.given_after

pub served-requires : goal.served-requires
served-requires c =
    let r = c.requires in
    let L = leads r.kept r.sound r.queued_nonzero r.limit_nonzero c.next_leg-leg.ensures in
    record { n_bound = leg_time L r.limit_bound; room = leg_sliced L }

pub returns : goal.returns
returns c =
    let r = c.requires in
    let L = leads r.kept r.sound r.queued_nonzero r.limit_nonzero c.next_leg-leg.ensures in
    served_stepped L (omega (arith, leg_owed L, leg_owes L, c.if-leg.false))
    c.served.ensures c.given_to.ensures.owed_after c.given_to.ensures.given_after
