-- Laws of the reader's steps: an opening stands at a place; reading on from an opening; a step as an iterator's.
-- Assumes nothing.
use Prim.Native.Nat.{ℕ, zero, suc, ◌+◌, ◌≤◌, ◌<◌}
use native.Mathlib.Omega.{arith}
use mathlib.Core.Path.{◌≡◌, refl, sym, ap, ◌∙◌}
use mathlib.Core.List.{List, [], ◌∷◌, ◌++◌}
use lib.ListN.{length, drop, replicate, drop_of_length-le}
use lib.Seq.{drop-cons}
use lib.Dec.{ltb}
use borrow.Author.Tests.{ltb-true, ltb-false, le-leb}
use denote.Ref.{Bor}
use Rattle.judging.specs.Log.{Verdict, Reads}
use Rattle.lists.proofs.Testing.{tested, equal-or}
use Rattle.rule.specs.Calls.{drain}
use Rattle.logs.specs.Records.{asked_times, row_list, found}
use Rattle.logs.proofs.Rows.{row_list_length, row_list_at, found_row, found_none}
use Rattle.std.specs.Prelude.{Option, Some, None}
use Rattle.std.specs.Iterator.{MakesProgress, at_most}
use Rattle.std.proofs.lemmas.Option.{none-some}
use Rattle.rule.specs.declared.Request.{Request}
use Rattle.places.specs.Places.{row_number, taken_at, PlaceOf, first_block}
use Rattle.places.proofs.Places.{first_reached, first_stands, taking, taken_stands, taken_none_at}
use Rattle.reader.specs.declared.Reader.{Reader}
use Rattle.reader.specs.Reading.{reader_on, Standing, taken_by, reader_past, rows_left, nexts, found_rows}

pub opened_stands : (log : Bor (List ℕ)) → Standing (reader_on log)
opened_stands log = first_stands log.now

-- ---- reading on

-- m rows from row n on
unfoldable found_from : List ℕ → ℕ → ℕ → List (Option Request)
found_from log n zero = []
found_from log n (suc m) = found log n ∷ found_from log (n + 1) m

from_none : (log : List ℕ) (n m : ℕ) → length (asked_times log) ≤ n → found_from log n m ≡ replicate m None
unfolding found_from
from_none log n zero h = refl
from_none log n (suc m) h = rw (← found_none log n h, from_none log (n + 1) m (omega arith))

-- a reader on the log, before record r of block b
abbrev on : Bor (List ℕ) → ℕ → ℕ → Reader
on log b r = record { log = log; block = b; «record» = r }

nexts_none : (log : Bor (List ℕ)) (b r m : ℕ) → 0 < b → PlaceOf log.now b r
    → length (asked_times log.now) ≤ row_number b r → nexts (on log b r) m ≡ replicate m None
unfolding nexts
nexts_none log b r zero low s h = refl
nexts_none log b r (suc m) low s h =
    let t = taking log.now b r low s in
    rw (
      t.finds ∙ sym (found_none log.now (row_number b r) h),
      (t.stays h).0,
      (t.stays h).1,
      nexts_none log b r m low s h,
    )

nexts_from : (log : Bor (List ℕ)) (b r m : ℕ) → 0 < b → PlaceOf log.now b r
    → nexts (on log b r) m ≡ found_from log.now (row_number b r) m
unfolding nexts found_from
nexts_from log b r zero low s = refl
nexts_from log b r (suc m) low s =
    let t = taking log.now b r low s in
    let to = taken_at log.now b r in
    let n = row_number b r in
    let rows = length (asked_times log.now) in
    tested (ltb n rows)
    (λ e. rw (t.finds, nexts_from log to.block to.«record» m t.past_zero t.reached, t.goes (ltb-true n rows e)))
    (λ e.
    let h = ltb-false n rows e in
    nexts_none log b r (suc m) low s h ∙ sym (from_none log.now n (suc m) h))

module _ (log : List ℕ) (reads : Reads log) where
  from_rows : (n j k : ℕ) → n + j ≡ length (row_list log)
      → found_from log n (j + k) ≡ found_rows (drop n (row_list log)) ++ replicate k None
  unfolding found_from found_rows
  from_rows n zero k e =
      let z : zero + k ≡ k = omega arith in
      rw (
        z,
        drop_of_length-le (row_list log) {i = n} (omega arith),
        from_none log n k (omega (arith, row_list_length log reads)),
      )
  from_rows n (suc j) k e =
      let h : n < length (asked_times log) = omega (arith, row_list_length log reads) in
      let z : suc j + k ≡ suc (j + k) = omega arith in
      let y : n + 1 ≡ suc n = omega arith in
      rw (
        z,
        drop-cons (row_list log) n drain (omega arith),
        row_list_at log reads n drain h,
        ← found_row log n h,
        y,
        from_rows (suc n) j k (omega arith),
      )

-- "knows its next record; after the last it says that there is none, and stays": from an opening all rows of the log
-- are found, in their order, and after them no more, however often
pub nexts_all : (log : Bor (List ℕ)) → Reads log.now → (k : ℕ)
    → nexts (reader_on log) (length (row_list log.now) + k) ≡ found_rows (row_list log.now) ++ replicate k None
nexts_all log reads k =
    ap (λ (v : Verdict). nexts (on log (first_block v) 0) (length (row_list log.now) + k)) reads
    ∙ nexts_from log 1 0 _ (omega arith) (first_reached log.now reads)
    ∙ from_rows log.now reads 0 (length (row_list log.now)) k (omega arith)

-- ---- a step as an iterator's: a record that is found is one fewer before the reader

found_left : (r : Reader) (x : Request) → Standing r → (taken_by r).found ≡ Some x
    → rows_left (reader_past r) < rows_left r
found_left r x s e =
    let log = r.log.now in
    let n = row_number r.block r.«record» in
    equal-or r.block 0
    (λ z. absurd (none-some x (taken_none_at log r.block r.«record» z ∙ e)))
    (λ z.
    let low : 0 < r.block = omega arith in
    let t = taking log r.block r.«record» low (s low) in
    tested (ltb n (length (asked_times log)))
    (λ h.
    let inside = ltb-true n (length (asked_times log)) h in
    let g = t.goes inside in
    rw (le-leb 1 r.block low, le-leb 1 (taken_by r).block t.past_zero, g) (omega arith))
    (λ h.
    absurd (none-some x (found_none log n (ltb-false n (length (asked_times log)) h) ∙ sym t.finds ∙ e))))

progress_of : (r : Reader) (o : Option Request) → Standing r → (taken_by r).found ≡ o
    → MakesProgress Standing (λ (s : Reader). at_most (rows_left s)) r o (reader_past r)
progress_of r None s e = record { on = λ _. tt; keeps = tt; rests = λ _. tt }
progress_of r (Some x) s e =
    let after = taken_stands r.log.now r.block r.«record» s in
    record { on = λ _. (after, tt, found_left r x s e); keeps = after; rests = λ _. tt }

pub progress : (r : Reader) → Standing r
    → MakesProgress Standing (λ (s : Reader). at_most (rows_left s)) r (taken_by r).found (reader_past r)
progress r s = progress_of r (taken_by r).found s refl
