-- `places::take_at` meets its contract: at a place that is reached the count of its block says whether a record is
-- there. Assumes nothing.
use native.Mathlib.Omega.{arith}
use Prim.Native.Nat.{ℕ, ◌+◌, ◌*◌, ◌≤◌, ◌<◌}
use mathlib.Core.Path.{◌≡◌}
use mathlib.Core.List.{List}
use Rattle.std.specs.Prelude.{◌-◌, take, drop}
use Rattle.rule.specs.declared.Request.{Request}
use Rattle.logs.specs.Records.{record_in_lem}
use Rattle.words.specs.Words.{word}
use Rattle.judging.specs.Blocks.{blocks}
use Rattle.places.specs.Places.{PlaceOf, Stands}
use Rattle.places.proofs.Places.{has_row_zero, has_row_past, row_number_counted, has_row_over, block_few}
use Rattle.places.proofs.Places.{taken_none, RowRead, row_read, taken_last, taken_next}
use Rattle.places.proofs.take_at.Goals as goal
use Rattle.places.proofs.take_at.Goals.{then-block-eq0-via-then-block-eq0}
use Rattle.places.proofs.take_at.Goals.{then-block-eq0-via-else-block-eq0+then-log-block}

-- past the test of the block
record Reached (log : List ℕ) (b r : ℕ) : Type 0 where
  low : 0 < b
  place : PlaceOf log b r
  few : b ≤ 26
  small : r < 41

reached : (log : List ℕ) (b r : ℕ) → Stands log b r → (b ≡ 0 → ⊥) → Reached log b r
reached log b r stands z =
    let low : 0 < b = omega arith in
    let s = stands low in
    record { low = low; place = s; few = block_few log b r low s; small = s.few }

-- past the test of its count, with the record read
read : (log : List ℕ) (b r n : ℕ) {x : Request} → Reached log b r → b < blocks log → n ≡ word log (512 * b + 4) → r < n
    → x ≡ record_in_lem (take (512 * b + 8 + 12 * r + 12 - (512 * b + 8 + 12 * r)) (drop (512 * b + 8 + 12 * r) log))
    → RowRead log b r x
read log b r n s inside e h x =
    row_read log b r s.low s.place (row_number_counted log b r s.low s.place inside (omega arith)) x

pub returns-then-block-eq0 : goal.returns-then-block-eq0
returns-then-block-eq0 c =
    elim c.then-block-eq0.branch [
      | then-block-eq0-via-then-block-eq0 w ↦ taken_none _ _ _ (has_row_zero _ _ _ w.if-block-eq0.true)
      | then-block-eq0-via-else-block-eq0+then-log-block w ↦
          let s = reached _ _ _ c.requires w.if-block-eq0.false in
          taken_none _ _ _ (has_row_past _ _ _ s.low s.place w.if-log-block.true)
    ]

pub overflow_mul-block : goal.overflow_mul-block
overflow_mul-block c = omega (arith, reached _ _ _ c.requires c.if-block-eq0.false)

pub overflow_add-block : goal.overflow_add-block
overflow_add-block c = omega (arith, reached _ _ _ c.requires c.if-block-eq0.false)

pub returns-then-word_at-record : goal.returns-then-word_at-record
returns-then-word_at-record c =
    let s = reached _ _ _ c.requires c.if-block-eq0.false in
    taken_none _ _ _
    (has_row_over _ _ _ s.low s.place c.if-log-block.false
    (omega (arith, c.if-word_at-record.true, c.word_at.ensures)))

pub overflow_mul-place : goal.overflow_mul-place
overflow_mul-place c = omega (arith, reached _ _ _ c.requires c.if-block-eq0.false)

pub overflow_add-place : goal.overflow_add-place
overflow_add-place c = omega (arith, reached _ _ _ c.requires c.if-block-eq0.false)

pub overflow_add-place-2 : goal.overflow_add-place-2
overflow_add-place-2 c = omega (arith, reached _ _ _ c.requires c.if-block-eq0.false)

pub overflow_add-place-3 : goal.overflow_add-place-3
overflow_add-place-3 c = omega (arith, reached _ _ _ c.requires c.if-block-eq0.false)

pub slice_bounds-record_in-end : goal.slice_bounds-record_in-end
slice_bounds-record_in-end c = omega (arith, reached _ _ _ c.requires c.if-block-eq0.false)

pub overflow_add-result : goal.overflow_add-result
overflow_add-result c = omega (arith, reached _ _ _ c.requires c.if-block-eq0.false)

pub returns-then-record-eq40 : goal.returns-then-record-eq40
returns-then-record-eq40 c =
    taken_last
    (read _ _ _ _ (reached _ _ _ c.requires c.if-block-eq0.false) c.if-log-block.false c.word_at.ensures
    c.if-word_at-record.false c.record_in.ensures)
    c.if-record-eq40.true

pub returns : goal.returns
returns c =
    taken_next
    (read _ _ _ _ (reached _ _ _ c.requires c.if-block-eq0.false) c.if-log-block.false c.word_at.ensures
    c.if-word_at-record.false c.record_in.ensures)
    c.if-record-eq40.false
