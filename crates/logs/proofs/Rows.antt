-- Laws of the rows of a log that reads. In order: the records of one block; the rows' number; where row i stands; the
-- rows as the code reads them, and as the table takes them. Assumes nothing.
use Prim.Native.Nat.{ℕ, zero, suc, ◌+◌, ◌*◌, ◌-◌, ◌/◌, ◌%◌, ◌≤◌, ◌<◌}
use native.Mathlib.Omega.{arith}
use mathlib.Core.Path.{◌≡◌, refl, sym, ap, ◌∙◌}
use mathlib.Core.List.{List, ◌++◌}
use lib.ListN.{length, get_or, take, drop, length-append, get_or-append, get_or-eq_default}
use lib.Seq.{get_or-append-add}
use lib.Dec.{ltb}
use borrow.Author.Tests.{ltb-true, ltb-false, lt-ltb, le-ltb}
use Rattle.lists.specs.Lists.{at}
use Rattle.lists.proofs.Testing.{tested, equal-or}
use Rattle.words.specs.Words.{word}
use Rattle.words.proofs.Words.{word_drop, word_take}
use Rattle.rule.specs.Calls.{Call, request}
use Rattle.rule.proofs.Table.{length_rows, at_rows}
use Rattle.judging.specs.Blocks.{blocks, block, count, records_to}
use Rattle.judging.specs.Log.{Reads}
use Rattle.logs.specs.Records.{entries, column_from, column, asked_times, record_in_lem, row_list, row_at, found}
use Rattle.std.specs.Prelude.{Some, None}
use Rattle.judging.proofs.Blocks.{records_zero, records_more}
use Rattle.judging.proofs.Accepted.{accepted_sized, accepted_counted, accepted_last, accepted_most}
use Rattle.judging.proofs.Accepted.{word_block}

-- ---- the records of one block

pub length_entries : (w n : ℕ) (s : List ℕ) → length (entries w n s) ≡ n
unfolding entries
length_entries w zero s = refl
length_entries w (suc n) s = ap suc (length_entries w n (drop 12 s))

pub at_entries : (w n : ℕ) (s : List ℕ) (j : ℕ) → j < n → at (entries w n s) j ≡ word s (12 * j + 4 * w)
unfolding entries
at_entries w zero s j h = absurd (omega arith)
at_entries w (suc n) s zero h = ap (word s) (omega arith)
at_entries w (suc n) s (suc j) h =
    at_entries w n (drop 12 s) j (omega arith) ∙ word_drop 12 s (12 * j + 4 * w) ∙ ap (word s) (omega arith)

-- ---- the rows' number

length_column_from : (w : ℕ) (log : List ℕ) (i left : ℕ) → 0 < i
    → length (column_from w log i left) + records_to log (i - 1) ≡ records_to log (i - 1 + left)
unfolding column_from
length_column_from w log i zero h = let e : i - 1 + 0 ≡ i - 1 = omega arith in rw e (omega arith)
length_column_from w log i (suc left) h =
    let b = block log i in
    let rest = column_from w log (i + 1) left in
    let s : i + 1 - 1 ≡ i = omega arith in
    let t : i - 1 + suc left ≡ i + left = omega arith in
    rw (t, length-append (entries w (count b) (drop 8 b)) rest, length_entries w (count b) (drop 8 b))
    (omega (arith, rw s at (length_column_from w log (i + 1) left (omega arith)), records_more log i h))

pub length_column : (w : ℕ) (log : List ℕ) → Reads log → length (column w log) ≡ records_to log (blocks log - 1)
unfolding column
length_column w log r =
    let e : 1 - 1 + (blocks log - 1) ≡ blocks log - 1 = omega arith in
    omega (arith, rw e at (length_column_from w log 1 (blocks log - 1) (omega arith)), records_zero log)

pub column_most : (w : ℕ) (log : List ℕ) → Reads log → length (column w log) ≤ 1024
column_most w log r = omega (arith, length_column w log r, accepted_most log r)

-- ---- where row i stands

-- record j of block i
at_block : (w : ℕ) (log : List ℕ) (i j : ℕ) → j < count (block log i) → j < 41 → w < 3
    → at (entries w (count (block log i)) (drop 8 (block log i))) j ≡ word log (512 * i + 8 + 12 * j + 4 * w)
at_block w log i j h few small =
    at_entries w (count (block log i)) (drop 8 (block log i)) j h
    ∙ word_drop 8 (block log i) (12 * j + 4 * w)
    ∙ word_block log i (8 + (12 * j + 4 * w)) (omega arith)
    ∙ ap (word log) (omega arith)

-- a column that is not empty has a block
more_left : (w : ℕ) (log : List ℕ) (i left : ℕ) → 0 < length (column_from w log i left) → 0 < left
unfolding column_from
more_left w log i zero h = absurd (omega arith)
more_left w log i (suc left) h = omega arith

module _ (w : ℕ) (small : w < 3) (log : List ℕ) (r : Reads log) where
  at_column_from : (i left p : ℕ) → 0 < i → i + left ≡ blocks log → p < length (column_from w log i left)
      → at (column_from w log i left) p ≡ word log (512 * (i + p / 41) + 8 + 12 * (p % 41) + 4 * w)
  unfolding column_from
  at_column_from i zero p low whole h = absurd (omega arith)
  at_column_from i (suc left) p low whole h =
      let b = block log i in
      let here = entries w (count b) (drop 8 b) in
      let rest = column_from w log (i + 1) left in
      let n = length_entries w (count b) (drop 8 b) in
      let c = accepted_counted log r i low (omega arith) in
      tested (ltb p (count b))
      (λ e.
      let l = ltb-true p (count b) e in
      get_or-append here rest 0 p (omega arith) ∙ at_block w log i p l (omega (arith, c.few)) small
      ∙ ap (word log) (omega (arith, c.few)))
      (λ e.
      let l = ltb-false p (count b) e in
      let more : 0 < length rest = omega (arith, length-append here rest) in
      let full = c.full (omega (arith, more_left w log (i + 1) left more)) in
      let q : p ≡ length here + (p - 41) = omega arith in
      ap (at (here ++ rest)) q ∙ get_or-append-add here rest (p - 41) 0
      ∙ at_column_from (i + 1) left (p - 41) (omega arith) (omega arith) (omega (arith, length-append here rest))
      ∙ ap (word log) (omega arith))

  pub at_column : (p : ℕ) → p < length (column w log)
      → at (column w log) p ≡ word log (512 * (1 + p / 41) + 8 + 12 * (p % 41) + 4 * w)
  unfolding column
  at_column p h = at_column_from 1 (blocks log - 1) p (omega arith) (omega (arith, accepted_sized log r)) h

-- rows do not go past the last block
pub column_blocks : (w : ℕ) (log : List ℕ) → Reads log → length (column w log) ≤ 41 * (blocks log - 1)
column_blocks w log r =
    let s = accepted_sized log r in
    equal-or (blocks log - 1) 0
    (λ e. omega (arith, length_column w log r, ap (records_to log) e, records_zero log))
    (λ e.
    let some : 0 < blocks log - 1 = omega arith in
    let c = accepted_counted log r (blocks log - 1) some (omega arith) in
    omega (arith, length_column w log r, accepted_last log r (omega arith), c.few))

-- ---- as the code reads them

module _ (log : List ℕ) (r : Reads log) where
  pub column_none : (w : ℕ) → blocks log < 2 → length (column w log) ≡ 0
  column_none w h = omega (arith, column_blocks w log r)

  pub column_some : (w : ℕ) → 2 ≤ blocks log
      → length (column w log) ≡ 41 * (blocks log - 1 - 1) + word log (512 * (blocks log - 1) + 4)
  column_some w h =
      let s : blocks log - 1 - 1 ≡ blocks log - 2 = omega arith in
      rw s
      (omega (arith, length_column w log r, accepted_last log r h, word_block log (blocks log - 1) 4 (omega arith)))

  pub column_same : (v w : ℕ) → length (column v log) ≡ length (column w log)
  column_same v w = length_column v log r ∙ sym (length_column w log r)

  pub row_past : (i : ℕ) → length (asked_times log) ≤ i → record { time = 0; task = 0; amount = 0 } ≡ row_at log i
  row_past i h =
      rw (
        get_or-eq_default (column 0 log) 0 {n = i} (omega (arith, column_same 0 0)),
        get_or-eq_default (column 1 log) 0 {n = i} (omega (arith, column_same 1 0)),
        get_or-eq_default (column 2 log) 0 {n = i} (omega (arith, column_same 2 0)),
      )

  -- the row's place
  abbrev pub row_place : ℕ → ℕ
  row_place i = 512 * (1 + i / 41) + 8 + 12 * (i % 41)

  pub row_inside : (i : ℕ) → i < length (asked_times log) → row_place i + 12 ≤ length log
  row_inside i h = omega (arith, accepted_sized log r, column_blocks 0 log r)

  pub row_here : (i t k m : ℕ) → i < length (asked_times log) → t ≡ word log (row_place i) → k ≡ word log (row_place i + 4)
      → m ≡ word log (row_place i + 8) → record { time = t; task = k; amount = m } ≡ row_at log i
  row_here i t k m h et ek em =
      rw (
        et ∙ ap (word log) (omega arith) ∙ sym (at_column 0 (omega arith) log r i h),
        ek ∙ sym (at_column 1 (omega arith) log r i (omega (arith, column_same 1 0))),
        em ∙ sym (at_column 2 (omega arith) log r i (omega (arith, column_same 2 0))),
      )

  pub row_in : (i : ℕ) → i < length (asked_times log)
      → record_in_lem (take (row_place i + 12 - row_place i) (drop (row_place i) log)) ≡ row_at log i
  unfolding record_in_lem
  row_in i h =
      let p = row_place i in
      let e : p + 12 - p ≡ 12 = omega arith in
      row_here i _ _ _ h
      (rw e (word_take 12 (drop p log) 0 (omega arith)) ∙ word_drop p log 0 ∙ ap (word log) (omega arith))
      (rw e (word_take 12 (drop p log) 4 (omega arith)) ∙ word_drop p log 4)
      (rw e (word_take 12 (drop p log) 8 (omega arith)) ∙ word_drop p log 8)

pub found_row : (log : List ℕ) (i : ℕ) → i < length (asked_times log) → Some (row_at log i) ≡ found log i
unfolding found
found_row log i h = rw (lt-ltb i (length (asked_times log)) h)

pub found_none : (log : List ℕ) (i : ℕ) → length (asked_times log) ≤ i → None ≡ found log i
unfolding found
found_none log i h = rw (le-ltb i (length (asked_times log)) h)

-- ---- the rows as the table takes them

module _ (log : List ℕ) (r : Reads log) where
  pub row_list_length : length (row_list log) ≡ length (asked_times log)
  row_list_length =
      length_rows (column 0 log) (column 1 log) (column 2 log) (column_same log r 1 0) (column_same log r 2 0)

  pub row_list_at : (i : ℕ) (d : Call) → i < length (asked_times log)
      → get_or (row_list log) i d ≡ request (row_at log i).time (row_at log i).task (row_at log i).amount
  row_list_at i d h = at_rows (column 0 log) (column 1 log) (column 2 log) i d (omega (arith, row_list_length))
