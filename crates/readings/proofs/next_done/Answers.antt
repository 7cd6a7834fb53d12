-- `readings::next_done` meets its contract: nothing is queued, so nothing is owed; or the engine's next completion is
-- the rule's. Assumes nothing.
use native.Mathlib.Omega.{arith}
use mathlib.Core.Path.{◌≡◌, sym, subst}
use mathlib.Core.List.{List, []}
use Prim.Native.Nat.{ℕ, ◌<◌}
use lib.ListN.{take}
use Rattle.rule.specs.State.{State}
use Rattle.rule.specs.View.{view}
use Rattle.laws.specs.Next.{DoneNext}
use Rattle.laws.proofs.Made.{made_sound, none_owed}
use Rattle.laws.proofs.Drains.{made_within}
use Rattle.laws.proofs.Next.{next_nothing, done_next}
use Rattle.engine.proofs.Assembly.{apart_sound}
use Rattle.readings.proofs.Reading.{apart_room}
use Rattle.readings.proofs.next_done.Goals as goal

positive : (n : ℕ) → (n ≡ 0 → ⊥) → 0 < n
positive n z = omega (arith, z)

queue_none : (l : List ℕ) (n : ℕ) → n ≡ 0 → take n l ≡ []
queue_none l n e = rw e

pub returns-then-run-eq0 : goal.returns-then-run-eq0
returns-then-run-eq0 c =
    let sound = made_sound _ c.requires.made in
    sym ((next_nothing _ sound).1 (none_owed _ sound (queue_none _ _ c.if-run-eq0.true)))

pub cursor_of-cursor-requires : goal.cursor_of-cursor-requires
cursor_of-cursor-requires c =
    record { tidy = c.requires.tidy; sound = made_sound _ c.requires.made }

pub soonest-next-requires : goal.soonest-next-requires
soonest-next-requires c =
    let some = positive _ c.if-run-eq0.false in record { kept = c.cursor_of-cursor.ensures.kept; owing = record { given = _; done = _; sound = apart_sound _ _ (made_sound _ c.requires.made) c.cursor_of-cursor.ensures }; queued_nonzero = rw c.cursor_of-cursor.ensures.queued some; owed_bound = apart_room _ _ c.cursor_of-cursor.ensures (made_within _ c.requires.made) }

pub returns : goal.returns
returns c =
    let sound = made_sound _ c.requires.made in
    let run = c.args.run.now in
    let next = c.soonest-next.result in
    sym (done_next (view run) next.task next.time sound
    (subst (λ (x : State). DoneNext x next.task next.time) c.cursor_of-cursor.ensures.shown
    (c.soonest-next.ensures run.given run.done (apart_sound _ _ sound c.cursor_of-cursor.ensures))))
