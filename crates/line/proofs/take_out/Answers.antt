-- Those behind the place are put over its task, if there are any, and the last place is cleared (Rings).
use native.Mathlib.Omega.{arith}
use mathlib.Core.Path.{ap, ◌∙◌}
use mathlib.Core.List.{List}
use Prim.Native.Nat.{ℕ, ◌-◌}
use lib.ListN.{set}
use Rattle.line.proofs.Rings.{lowered_taken_out, last_taken_out}
use Rattle.line.proofs.take_out.Goals as goal
use Rattle.line.proofs.take_out.Goals.{then-place-last, else-place-last}

pub returns : goal.returns
returns c =
    let r = c.requires in
    let n = c.args.n in
    let q = c.args.queue.now in
    elim c.if-place-last.branch [
      | then-place-last w ↦
          ap (λ (x : List ℕ). set x (n - 1) 0) w.queue-is
          ∙ lowered_taken_out c.args.place n q r.place_lt_n (omega (arith, r.clear.fits, r.clear.whole)) r.clear
          _ w.copy_from_slice.ensures.after
      | else-place-last w ↦
          ap (λ (x : List ℕ). set x (n - 1) 0) w.queue-is
          ∙ last_taken_out c.args.place n q r.place_lt_n (omega (arith, r.clear.fits, r.clear.whole)) r.clear
          (omega (arith, w.if-place-last.false, r.place_lt_n))
    ]
