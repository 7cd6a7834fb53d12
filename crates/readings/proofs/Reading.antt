-- What the readings know of a made run: it counts at most 32 tasks, and taken apart its clock has room for what it
-- owes. Assumes nothing.
use Prim.Native.Nat.{◌+◌, ◌≤◌}
use native.Mathlib.Omega.{arith}
use Rattle.lists.specs.Lists.{total}
use Rattle.rule.specs.View.{view, MadeRun}
use Rattle.rule.specs.declared.Run.{Run}
use Rattle.laws.specs.Drains.{last_clock}
use Rattle.laws.proofs.Made.{made_sound}
use Rattle.engine.specs.Promises.{Apart}
use Rattle.engine.proofs.Assembly.{apart_clock}
use Rattle.legs.specs.declared.Cursor.{Cursor}

pub made_few : (r : Run) → MadeRun r → r.setup.count ≤ 32
made_few r m = (made_sound (view r) m.made).few

pub apart_room : (run : Run) (c : Cursor) → Apart run c → run.clock + total run.owed ≤ last_clock
    → c.clock + total run.owed ≤ last_clock
apart_room run c a h = omega (arith, apart_clock run c a)
