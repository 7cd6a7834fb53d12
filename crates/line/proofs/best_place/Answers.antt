-- Of the task at the place and the next, the one that goes first (Heads).
use native.Mathlib.Omega.{arith}
use mathlib.Core.Path.{refl, sym, ◌∙◌}
use mathlib.Core.Bool.{true, false}
use Prim.Native.Nat.{◌≤◌}
use lib.ListN.{length}
use Rattle.lists.specs.Lists.{at}
use Rattle.line.proofs.Heads.{scanned_step, scanned_stays, scanned_end, before_overtakes, before_stays}
use Rattle.line.proofs.best_place.Goals as goal
use Rattle.line.proofs.best_place.Goals.{then-overtakes, else-overtakes}

pub loop-k-preserved-then-rank-top : goal.loop-k-preserved-then-rank-top
loop-k-preserved-then-rank-top c =
    let i = c.loop-k in
    let q = c.args.queue.now in
    let l : c.args.n ≤ length q = omega (arith, c.told-queue) in
    let stays = before_stays c.args.priority.now i.task (at q i.k) i.invariant.ranks refl c.if-rank-top.true in
    scanned_stays i.invariant l c.loop-k-test.true stays refl refl refl

pub loop-k-preserved : goal.loop-k-preserved
loop-k-preserved c =
    let i = c.loop-k in
    let q = c.args.queue.now in
    let prio = c.args.priority.now in
    let l : c.args.n ≤ length q = omega (arith, c.told-queue, c.requires.n_bound) in
    let h = c.loop-k-test.true in
    let first = before_overtakes prio i.task (at q i.k) i.invariant.ranks refl in
    elim c.if-overtakes.branch [
      | then-overtakes w ↦
          scanned_step i.invariant l h (omega (arith, h)) (first true (sym w.if-overtakes.true ∙ c.overtakes.ensures))
          w.place-is w.task-is w.top-is
      | else-overtakes w ↦
          scanned_stays i.invariant l h (first false (sym w.if-overtakes.false ∙ c.overtakes.ensures)) w.place-is w.task-is w.top-is
    ]

pub returns : goal.returns
returns c =
    scanned_end c.loop-k.invariant (omega (arith, c.told-queue, c.requires.n_bound)) c.loop-k-test.false
