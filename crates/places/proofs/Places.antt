-- Laws of the places of a log that reads. In order: whether a record is at a place; what is taken there; reading
-- begins at a place that is reached, and goes on to such a place. Assumes nothing.
use Prim.Native.Nat.{ℕ, ◌+◌, ◌*◌, ◌-◌, ◌≤◌, ◌<◌}
use native.Mathlib.Omega.{arith}
use mathlib.Core.Path.{◌≡◌, refl, ap, ◌∙◌}
use mathlib.Core.Bool.{true, false}
use mathlib.Core.List.{List}
use lib.ListN.{length, take, drop}
use lib.Dec.{ltb}
use borrow.Author.Tests.{ltb-true, ltb-false, lt-ltb, le-ltb, lt-leb, le-leb, eq-eqb, ne_eqb}
use Rattle.lists.proofs.Testing.{tested, equal-or}
use Rattle.words.specs.Words.{word}
use Rattle.judging.specs.Blocks.{blocks, full_block}
use Rattle.judging.specs.Log.{Verdict, accepted, refused, judged, Reads}
use Rattle.logs.specs.Records.{asked_times, record_in_lem, row_at, found}
use Rattle.std.specs.Prelude.{Some, None}
use Rattle.rule.specs.declared.Request.{Request}
use Rattle.judging.proofs.Accepted.{accepted_counted, word_block}
use Rattle.logs.proofs.Rows.{column_blocks, column_most, column_some, row_place, row_in, found_row, found_none}
use Rattle.places.specs.declared.Taken.{Taken}
use Rattle.places.specs.Places.{row_number, has_row, taken_at, PlaceOf, Stands, first_block}

-- ---- whether a record is at a place

has_row_true : (log : List ℕ) (b r : ℕ) → 0 < b → row_number b r < length (asked_times log) → has_row log b r ≡ true
has_row_true log b r low h = rw (le-leb 1 b low, lt-ltb (row_number b r) (length (asked_times log)) h)

pub has_row_zero : (log : List ℕ) (b r : ℕ) → b ≡ 0 → has_row log b r ≡ false
has_row_zero log b r e = rw (lt-leb 1 b (omega arith))

module _ (log : List ℕ) (b r : ℕ) (low : 0 < b) (s : PlaceOf log b r) where
  has_row_false : length (asked_times log) ≤ row_number b r → has_row log b r ≡ false
  has_row_false h = rw (le-leb 1 b low, le-ltb (row_number b r) (length (asked_times log)) h)

  pub has_row_past : blocks log ≤ b → has_row log b r ≡ false
  has_row_past h = has_row_false (omega (arith, column_blocks 0 log s.reads))

  module _ (h : b < blocks log) where
    some : length (asked_times log) ≡ 41 * (blocks log - 1 - 1) + word log (512 * (blocks log - 1) + 4)
    some = column_some log s.reads 0 (omega arith)

    counted : (i : ℕ) → 0 < i → i < blocks log → (1 ≤ word log (512 * i + 4)) × (i + 1 < blocks log
        → word log (512 * i + 4) ≡ 41)
    counted i g l =
        let c = accepted_counted log s.reads i g l in
        let e = word_block log i 4 (omega arith) in
        (omega (arith, c.some), λ inner. omega (arith, c.full inner))

    -- the last block's count is the number of rows after the blocks before it, and each other is full
    pub count_cases : {C : Type 0}
        → (length (asked_times log) ≡ 41 * (b - 1) + word log (512 * b + 4) → C)
        → (word log (512 * b + 4) ≡ 41 → 41 * b < length (asked_times log) → C) → C
    count_cases last inner =
        equal-or b (blocks log - 1)
        (λ e. last (rw e some))
        (λ e.
        let l : b + 1 < blocks log = omega arith in
        inner ((counted b low h).1 l)
        (omega (arith, some, (counted (blocks log - 1) (omega arith) (omega arith)).0)))

    pub row_number_counted : r < word log (512 * b + 4) → row_number b r < length (asked_times log)
    row_number_counted g = count_cases (λ e. omega arith) (λ e l. omega arith)

    pub has_row_over : word log (512 * b + 4) ≤ r → has_row log b r ≡ false
    has_row_over g = count_cases (λ e. has_row_false (omega arith)) (λ e l. absurd (omega (arith, s.few)))

  pub block_few : b ≤ 26
  block_few = omega (arith, s.inside, column_most 0 log s.reads)

-- ---- what is taken

pub taken_none : (log : List ℕ) (b r : ℕ) → has_row log b r ≡ false
    → record { found = None; block = b; «record» = r } ≡ taken_at log b r
unfolding taken_at
taken_none log b r h = rw h

pub taken_none_at : (log : List ℕ) (b r : ℕ) → b ≡ 0 → None ≡ (taken_at log b r).found
taken_none_at log b r z = ap (λ (t : Taken). t.found) (taken_none log b r (has_row_zero log b r z))

-- the words x there are a row
pub record RowRead (log : List ℕ) (b r : ℕ) (x : Request) : Type 0 where
  pub has : has_row log b r ≡ true
  pub row : x ≡ row_at log (row_number b r)

pub row_read : (log : List ℕ) (b r : ℕ) {x : Request} → 0 < b → PlaceOf log b r
    → row_number b r < length (asked_times log)
    → x ≡ record_in_lem (take (512 * b + 8 + 12 * r + 12 - (512 * b + 8 + 12 * r)) (drop (512 * b + 8 + 12 * r) log))
    → RowRead log b r x
row_read log b r low s h e =
    let p : row_place log s.reads (row_number b r) ≡ 512 * b + 8 + 12 * r = omega (arith, s.few) in
    record { has = has_row_true log b r low h; row = e ∙ (rw p at (row_in log s.reads (row_number b r) h)) }

module _ {log : List ℕ} {b r : ℕ} {x : Request} (read : RowRead log b r x) where
  pub taken_last : r ≡ 40 → record { found = Some x; block = b + 1; «record» = 0 } ≡ taken_at log b r
  unfolding taken_at
  taken_last e = rw (read.row, read.has, eq-eqb (r + 1) full_block (omega arith))

  pub taken_next : (r ≡ 40 → ⊥) → record { found = Some x; block = b; «record» = r + 1 } ≡ taken_at log b r
  unfolding taken_at
  taken_next e = rw (read.row, read.has, ne_eqb (r + 1) full_block (λ f. e (omega arith)))

-- ---- the places that reading reaches

pub first_reached : (log : List ℕ) → Reads log → PlaceOf log 1 0
first_reached log r = record { reads = r; few = omega arith; inside = omega arith }

verdict_stands : (log : List ℕ) (v : Verdict) → judged log ≡ v → Stands log (first_block v) 0
verdict_stands log accepted e h = first_reached log e
verdict_stands log (refused n i) e h = absurd (omega arith)

pub first_stands : (log : List ℕ) → Stands log (first_block (judged log)) 0
first_stands log = verdict_stands log (judged log) refl

-- what is taken before row n
pub record Taking (log : List ℕ) (b r n : ℕ) (t : Taken) : Type 0 where
  pub finds : t.found ≡ found log n
  pub past_zero : 0 < t.block
  pub reached : PlaceOf log t.block t.«record»
  pub goes : n < length (asked_times log) → row_number t.block t.«record» ≡ n + 1
  pub stays : length (asked_times log) ≤ n → (t.block ≡ b) × (t.«record» ≡ r)

pub taking : (log : List ℕ) (b r : ℕ) → 0 < b → PlaceOf log b r → Taking log b r (row_number b r) (taken_at log b r)
unfolding taken_at
taking log b r low s =
    let rows = length (asked_times log) in
    let n = row_number b r in
    tested (ltb n rows)
    (λ e.
    let h = ltb-true n rows e in
    equal-or (r + 1) full_block
    (λ q.
    rw (le-leb 1 b low, e, eq-eqb (r + 1) full_block q)
    (record {
      finds = found_row log n h;
      past_zero = omega arith;
      reached = record { reads = s.reads; few = omega arith; inside = omega arith };
      goes = λ _. omega arith;
      stays = λ l. absurd (omega arith);
    }))
    (λ q.
    rw (le-leb 1 b low, e, ne_eqb (r + 1) full_block q)
    (record {
      finds = found_row log n h;
      past_zero = low;
      reached = record { reads = s.reads; few = omega (arith, s.few); inside = omega arith };
      goes = λ _. omega arith;
      stays = λ l. absurd (omega arith);
    })))
    (λ e.
    let l = ltb-false n rows e in
    rw (le-leb 1 b low, e)
    (record {
      finds = found_none log n l;
      past_zero = low;
      reached = s;
      goes = λ h. absurd (omega arith);
      stays = λ _. (refl, refl);
    }))

-- "and stays"
pub taken_stands : (log : List ℕ) (b r : ℕ) → Stands log b r
    → Stands log (taken_at log b r).block (taken_at log b r).«record»
unfolding taken_at
taken_stands log b r s =
    equal-or b 0
    (λ e. rw (has_row_zero log b r e) s)
    (λ e h. let low : 0 < b = omega arith in (taking log b r low (s low)).reached)
