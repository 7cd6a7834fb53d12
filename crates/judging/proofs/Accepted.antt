-- What a log that reads says of its blocks. In order: no refusal is accepted; its size; each block's refusal is none;
-- the numbers of records; the words of a block are words of the log. Assumes nothing.
use Prim.Native.Nat.{ℕ, zero, suc, ◌+◌, ◌*◌, ◌-◌, ◌%◌, ◌≤◌, ◌<◌}
use native.Mathlib.Omega.{arith}
use native.Mathlib.Nat.{eq-or-lt_of_le}
use mathlib.Core.Path.{◌≡◌, refl, ◌∙◌}
use mathlib.Core.Bool.{Bool, true, false, cond, ◌||◌}
use mathlib.Core.List.{List}
use mathlib.Core.Logic.{⊎_elim}
use lib.ListN.{length, drop}
use lib.Dec.{eqb}
use borrow.Author.Tests.{eqb-true, ne_eqb}
use Rattle.lists.specs.Lists.{within}
use Rattle.lists.proofs.Testing.{equal-or, and_true, within_true, passed_not}
use Rattle.words.specs.Words.{word}
use Rattle.words.proofs.Words.{word_take, word_drop}
use Rattle.rule.specs.Setups.{setup_refusal_lem}
use Rattle.judging.specs.Blocks.{blocks, length_fits, block, check_fits, place_fits, setup_in_lem, count, records_to}
use Rattle.judging.specs.Blocks.{count_fits, unused_zero, layout_fits}
use Rattle.judging.specs.Log.{Verdict, accepted, refused, block_refusal_lem, judged_from, judged, Reads}
use Rattle.judging.proofs.Blocks.{Counted, count_fits_lem, records_zero, records_more}

-- ---- no refusal is accepted

pub refused-not {ℓ} : {A : Type ℓ} {n i : ℕ} → refused n i ≡ accepted → A
refused-not e = let z : ◌≡◌ {A = ℕ} 0 1 = cc in absurd (omega arith)

pub cond_accepted : (b : Bool) (v : Verdict) (n i : ℕ) → cond b v (refused n i) ≡ accepted → (b ≡ true) × (v ≡ accepted)
cond_accepted true v n i e = (refl, e)
cond_accepted false v n i e = refused-not e

-- ---- size

pub record Sized (log : List ℕ) : Type 0 where
  pub whole : 512 * blocks log ≡ length log
  pub some : 1 ≤ blocks log
  pub most : blocks log ≤ 26

pub fits_sized : (log : List ℕ) → length_fits log ≡ true → Sized log
unfolding length_fits
fits_sized log f =
    let p = and_true (eqb (length log % 512) 0) (within 1 26 (blocks log)) f in
    let e = eqb-true (length log % 512) 0 p.0 in
    let w = within_true 1 26 (blocks log) p.1 in
    record { whole = omega arith; some = w.0; most = w.1 }

accepted_length : (log : List ℕ) → Reads log → (length_fits log ≡ true) × (judged_from log 0 (blocks log) ≡ accepted)
unfolding judged
accepted_length log r = cond_accepted (length_fits log) (judged_from log 0 (blocks log)) 30 0 r

pub accepted_sized : (log : List ℕ) → Reads log → Sized log
accepted_sized log r = fits_sized log (accepted_length log r).0

-- ---- blocks

accepted_from : (log : List ℕ) (i left : ℕ) → judged_from log i left ≡ accepted
    → (j : ℕ) → i ≤ j → j < i + left → block_refusal_lem log j ≡ 0
unfolding judged_from
accepted_from log i zero e j low high = absurd (omega arith)
accepted_from log i (suc left) e j low high =
    let p = cond_accepted (eqb (block_refusal_lem log i) 0) (judged_from log (i + 1) left) (block_refusal_lem log i) i e in
    ⊎_elim
    (λ q. rw (← q) (eqb-true (block_refusal_lem log i) 0 p.0))
    (λ q. accepted_from log (i + 1) left p.1 j (omega arith) (omega arith))
    (eq-or-lt_of_le low)

pub accepted_block : (log : List ℕ) → Reads log → (i : ℕ) → i < blocks log → block_refusal_lem log i ≡ 0
accepted_block log r i h = accepted_from log 0 (blocks log) (accepted_length log r).1 i (omega arith) (omega arith)

-- the three tests of a block, and the setup's refusal
pub record Passed (log : List ℕ) (i : ℕ) : Type 0 where
  pub check : check_fits (block log i) ≡ true
  pub place : place_fits i (block log i) ≡ true
  pub layout : layout_fits log i ≡ true
  pub setup : cond (eqb i 0) (setup_refusal_lem (setup_in_lem (block log i))) 0 ≡ 0

block_passed : (log : List ℕ) (i : ℕ) → block_refusal_lem log i ≡ 0 → Passed log i
unfolding block_refusal_lem
block_passed log i e =
    let p = passed_not (check_fits (block log i)) 30 _ e in
    let q = passed_not (place_fits i (block log i)) 31 _ p.1 in
    let s = passed_not (layout_fits log i) 32 _ q.1 in
    record { check = p.0; place = q.0; layout = s.0; setup = s.1 }

pub accepted_passed : (log : List ℕ) → Reads log → (i : ℕ) → i < blocks log → Passed log i
accepted_passed log r i h = block_passed log i (accepted_block log r i h)

-- ---- records

pub accepted_counted : (log : List ℕ) → Reads log → (i : ℕ) → 0 < i → i < blocks log
    → Counted (blocks log) i (records_to log (i - 1)) (count (block log i))
unfolding layout_fits
accepted_counted log r i low high =
    let e = (accepted_passed log r i high).layout in
    let p = and_true
    (eqb i 0 || count_fits (blocks log) i (records_to log (i - 1)) (count (block log i)))
    (unused_zero i (block log i))
    e in
    count_fits_lem _ _ _ _ (rw (ne_eqb i 0 (λ z. omega arith)) at p.0)

pub accepted_full : (log : List ℕ) → Reads log → (i : ℕ) → (0 < i → i + 1 < blocks log) → records_to log i ≡ 41 * i
accepted_full log r zero h = records_zero log
accepted_full log r (suc i) h =
    let inner = h (omega arith) in
    let c = accepted_counted log r (suc i) (omega arith) (omega arith) in
    let s : suc i - 1 ≡ i = omega arith in
    omega (
      arith,
      rw s at (records_more log (suc i) (omega arith)),
      accepted_full log r i (λ g. omega arith),
      c.full inner,
    )

-- the last block's records stand after full blocks
pub accepted_last : (log : List ℕ) → Reads log → 2 ≤ blocks log
    → records_to log (blocks log - 1) ≡ 41 * (blocks log - 2) + count (block log (blocks log - 1))
accepted_last log r h =
    let s : blocks log - 1 - 1 ≡ blocks log - 2 = omega arith in
    omega (
      arith,
      rw s at (records_more log (blocks log - 1) (omega arith)),
      accepted_full log r (blocks log - 2) (λ g. omega arith),
    )

pub accepted_most : (log : List ℕ) → Reads log → records_to log (blocks log - 1) ≤ 1024
accepted_most log r =
    let s = accepted_sized log r in
    equal-or (blocks log - 1) 0
    (λ e. rw e (omega (arith, records_zero log)))
    (λ e.
    let two : 0 < blocks log - 1 = omega arith in
    omega (
      arith,
      records_more log (blocks log - 1) (omega arith),
      (accepted_counted log r (blocks log - 1) (omega arith) (omega arith)).most,
    ))

-- ---- words

pub word_block : (log : List ℕ) (i k : ℕ) → k + 3 < 512 → word (block log i) k ≡ word log (512 * i + k)
word_block log i k h = word_take 512 (drop (512 * i) log) k h ∙ word_drop (512 * i) log k
