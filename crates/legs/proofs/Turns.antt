-- The turn. In order: when it comes; what it does to the parts: the cursor's head moves, and no task does. Assumes
-- nothing.
use Prim.Native.Nat.{ℕ, ◌+◌, ◌≤◌, ◌<◌}
use native.Mathlib.Omega.{arith}
use mathlib.Core.Path.{◌≡◌, sym, ap, ◌∙◌}
use mathlib.Core.Bool.{Bool, true, false, cond, false≢true}
use mathlib.Core.List.{List}
use lib.Dec.{eqb, leb}
use borrow.Author.Tests.{eqb-false, leb-true}
use Rattle.lists.proofs.Testing.{tested, cond-true, cond-false, and_true}
use Rattle.rule.specs.Setups.{is_priority}
use Rattle.rule.specs.Tick.{overdue, head_back, turn}
use Rattle.rule.specs.declared.Setup.{Setup}
use Rattle.line.specs.Places.{queue_at}
use Rattle.legs.specs.Parts.{with_queue, parts, Kept, slice_due_lem, next_place, turned_to}
use Rattle.legs.specs.declared.Cursor.{Cursor}
use Rattle.line.proofs.Rings.{head_back_ring}
use Rattle.line.proofs.Queues.{queue_at_robin}
use Rattle.line.proofs.Heads.{chosen_robin}

-- ---- when it comes

pub overdue_robin : (p : Setup) (used : ℕ) → overdue p used ≡ true → is_priority p ≡ false
unfolding overdue
overdue_robin p used e =
    tested (is_priority p)
    (λ f. absurd (false≢true (sym (cond-true false (eqb used p.slice) f) ∙ e)))
    (λ f. f)

slice_due_overdue : (p : Setup) (c : Cursor) (limit : ℕ) → slice_due_lem p c limit ≡ true → overdue p c.used ≡ true
slice_due_overdue p c limit e = (and_true (overdue p c.used) (leb p.slice limit) e).0

pub slice_due_robin : (p : Setup) (c : Cursor) (limit : ℕ) → slice_due_lem p c limit ≡ true → is_priority p ≡ false
slice_due_robin p c limit e = overdue_robin p c.used (slice_due_overdue p c limit e)

pub slice_due_whole : (p : Setup) (c : Cursor) (limit : ℕ) → slice_due_lem p c limit ≡ true → p.slice ≤ limit
slice_due_whole p c limit e = leb-true p.slice limit (and_true (overdue p c.used) (leb p.slice limit) e).1

-- ---- what it does

pub turned_used : (p : Setup) (c : Cursor) (limit : ℕ) → slice_due_lem p c limit ≡ true → (turned_to p c).used ≡ 0
unfolding turned_to
turned_used p c limit e = cond-true 0 c.used (slice_due_overdue p c limit e)

next_below : (h n : ℕ) (b : Bool) → h < n → cond b (cond (eqb (h + 1) n) 0 (h + 1)) h < n
next_below h n false l = l
next_below h n true l =
    tested (eqb (h + 1) n) (λ e. rw e (omega arith)) (λ e. rw e (omega (arith, eqb-false (h + 1) n e)))

module _ {p : Setup} {c : Cursor} {q : List ℕ} (K : Kept p c q) (some : 0 < c.queued) where
  pub turned_some : (turned_to p c).head < c.queued
  unfolding turned_to
  turned_some = next_below c.head c.queued (overdue p c.used) (omega (arith, K.inside))

  pub turned_kept : Kept p (turned_to p c) q
  unfolding turned_to
  turned_kept =
      record {
        tidy = K.tidy;
        inside = omega (arith, turned_some);
        serves = λ y.
            tested (overdue p c.used)
            (λ f.
            sym (chosen_robin p (turned_to p c).head c.queued q (overdue_robin p c.used f) turned_some
            (omega (arith, K.tidy.fits, K.tidy.whole))))
            (λ f. rw f (K.serves y));
      }

  queue_at_turned : queue_at p (turned_to p c).head c.queued q
      ≡ cond (overdue p c.used) (head_back (queue_at p c.head c.queued q)) (queue_at p c.head c.queued q)
  unfolding turned_to
  queue_at_turned =
      let h = c.head in
      let n = c.queued in
      tested (overdue p c.used)
      (λ f.
      let e : is_priority p ≡ false = overdue_robin p c.used f in
      ap (λ (x : ℕ). queue_at p x n q) (cond-true (next_place c) h f)
      ∙ queue_at_robin p (next_place c) n q e
      ∙ sym (head_back_ring h n q (omega (arith, K.inside)) (omega (arith, K.tidy.fits, K.tidy.whole)))
      ∙ ap head_back (sym (queue_at_robin p h n q e))
      ∙ sym (cond-true (head_back (queue_at p h n q)) (queue_at p h n q) f))
      (λ f.
      ap (λ (x : ℕ). queue_at p x n q) (cond-false (next_place c) h f)
      ∙ sym (cond-false (head_back (queue_at p h n q)) (queue_at p h n q) f))

  pub parts_turn : {o g d : List ℕ} → parts p (turned_to p c) q o g d ≡ turn (parts p c q o g d)
  unfolding turn overdue turned_to
  parts_turn {o} {g} {d} = ap (λ (x : List ℕ). with_queue p (turned_to p c) x o g d) queue_at_turned
