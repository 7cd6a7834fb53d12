-- "Given exactly when": each byte string is accepted, or refused with one number and block. In order: refused exactly
-- when; accepted exactly when; places; the answers of the code. Assumes nothing.
use Prim.Native.Nat.{ℕ, zero, suc, ◌+◌, ◌-◌, ◌≤◌, ◌<◌}
use native.Mathlib.Omega.{arith}
use mathlib.Core.Path.{◌≡◌, refl, sym, ap, subst, ◌∙◌}
use mathlib.Core.Bool.{true, false, cond}
use Rattle.std.specs.Prelude.{Result, Ok, Err}
use mathlib.Core.List.{List}
use lib.Dec.{eqb}
use borrow.Author.Tests.{eqb-true, eqb-false, ne_eqb}
use Rattle.lists.proofs.Testing.{tested, equal-or, cond-true, cond-false}
use Rattle.rule.specs.View.{Determined}
use Rattle.judging.specs.Blocks.{blocks, length_fits, block, check_fits, place_fits, layout_fits}
use Rattle.judging.specs.Log.{Verdict, refused, told, block_refusal_lem, judged_from, judged, Reads}
use Rattle.judging.specs.Numbers.{log_number, log_block}
use Rattle.judging.specs.declared.LogRefusal.{LogRefusal}
use Rattle.judging.specs.declared.LogRefusal.TheVariants.{WrongLength, WrongCheck, WrongPlace, WrongLayout}
use Rattle.judging.specs.declared.LogRefusal.TheVariants.{WrongSetup, NoSuchBlock}
use Rattle.setups.specs.declared.SetupRefusal.TheVariants.{WrongPolicy, WrongCount, WrongSlice, WrongPriorities}
use Rattle.judging.proofs.Judging.{judged_good, judged_refused, judged_end}
use Rattle.judging.proofs.Accepted.{refused-not, fits_sized}

-- ---- refused exactly when

-- the length does not fit, or block i is the first with a refusal, and it is n
pub data Fault (log : List ℕ) : ℕ → ℕ → Type 0 where
  in_length : length_fits log ≡ false → Fault log 30 0
  in_block :
      {n i : ℕ} → length_fits log ≡ true → i < blocks log → ((j : ℕ) → j < i → block_refusal_lem log j ≡ 0)
      → block_refusal_lem log i ≡ n → (n ≡ 0 → ⊥) → Fault log n i

-- the blocks up to block i have no refusal
good_from : (log : List ℕ) (i : ℕ) → i ≤ blocks log → ((j : ℕ) → j < i → block_refusal_lem log j ≡ 0)
    → judged_from log 0 (blocks log) ≡ judged_from log i (blocks log - i)
good_from log zero h good = let e : blocks log - 0 ≡ blocks log = omega arith in rw e
good_from log (suc i) h good =
    let e : i + 1 ≡ suc i = omega arith in
    good_from log i (omega arith) (λ j g. good j (omega arith))
    ∙ (rw e at (judged_good log (blocks log) i h (good i (omega arith))))

pub fault_refused : {log : List ℕ} {n i : ℕ} → Fault log n i → judged log ≡ refused n i
unfolding judged
fault_refused (in_length e) = rw e
fault_refused {log} {n} {i} (in_block e h good b z) =
    rw e (good_from log i (omega arith) good ∙ judged_refused log (blocks log) i n h b z)

refused_from : (log : List ℕ) (n i : ℕ) → length_fits log ≡ true → (left j : ℕ) → j + left ≡ blocks log
    → ((k : ℕ) → k < j → block_refusal_lem log k ≡ 0) → judged_from log j left ≡ refused n i → Fault log n i
unfolding judged_from
refused_from log n i fits zero j h good e = refused-not (sym e)
refused_from log n i fits (suc left) j h good e =
    tested (eqb (block_refusal_lem log j) 0)
    (λ t.
    refused_from log n i fits left (j + 1) (omega arith)
    (λ k g. equal-or k j (λ q. rw q (eqb-true (block_refusal_lem log j) 0 t)) (λ q. good k (omega arith)))
    (sym (cond-true (judged_from log (j + 1) left) (refused (block_refusal_lem log j) j) t) ∙ e))
    (λ t.
    let f = cond-false (judged_from log (j + 1) left) (refused (block_refusal_lem log j) j) t in
    let q : refused (block_refusal_lem log j) j ≡ refused n i = sym f ∙ e in
    let en : block_refusal_lem log j ≡ n = cc in
    let ei : j ≡ i = cc in
    subst (λ (x : ℕ). Fault log n x) ei
    (in_block fits (omega arith) good en (λ z. eqb-false (block_refusal_lem log j) 0 t (en ∙ z))))

pub refused_fault : (log : List ℕ) (n i : ℕ) → judged log ≡ refused n i → Fault log n i
unfolding judged
refused_fault log n i e =
    tested (length_fits log)
    (λ t. refused_from log n i t (blocks log) 0 (omega arith) (λ k g. absurd (omega arith)) (sym (cond-true _ _ t) ∙ e))
    (λ t.
    let q : refused 30 0 ≡ refused n i = sym (cond-false (judged_from log 0 (blocks log)) (refused 30 0) t) ∙ e in
    let en : 30 ≡ n = cc in
    let ei : 0 ≡ i = cc in
    rw (← en, ← ei) (in_length t))

-- ---- accepted exactly when

pub good_reads : (log : List ℕ) → length_fits log ≡ true → ((i : ℕ) → i < blocks log → block_refusal_lem log i ≡ 0)
    → Reads log
unfolding judged
good_reads log fits good =
    rw fits (good_from log (blocks log) (omega arith) good ∙ judged_end log (blocks log) (blocks log) (omega arith))

-- ---- "the block for 31 to 33, else 0"

refusal_other : (log : List ℕ) (i n : ℕ) → (i ≡ 0 → ⊥) → block_refusal_lem log i ≡ n → (n ≡ 0 → ⊥) → 31 ≤ n
unfolding block_refusal_lem
refusal_other log i n other e z =
    tested (check_fits (block log i))
    (λ a.
    tested (place_fits i (block log i))
    (λ b.
    tested (layout_fits log i)
    (λ c. absurd (z (sym (rw (a, b, c, ne_eqb i 0 other) at e))))
    (λ c. omega (arith, rw (a, b, c) at e)))
    (λ b. omega (arith, rw (a, b) at e)))
    (λ a. omega (arith, rw a at e))

fault_place : {log : List ℕ} {n i : ℕ} → Fault log n i → n < 31 → i ≡ 0
fault_place (in_length e) h = refl
fault_place {log} {n} {i} (in_block e g good b z) h =
    equal-or i 0 (λ q. q) (λ q. absurd (omega (arith, refusal_other log i n q b z)))

pub refused_place : (log : List ℕ) (n i : ℕ) → judged log ≡ refused n i → n < 31 → i ≡ 0
refused_place log n i e h = fault_place (refused_fault log n i e) h

fault_small : {log : List ℕ} {n i : ℕ} → Fault log n i → i ≤ 26
fault_small (in_length e) = omega arith
fault_small {log} (in_block e g good b z) = omega (arith, (fits_sized log e).most)

-- the block of a refused log is a small number
pub refused_small : (log : List ℕ) (n i : ℕ) → judged log ≡ refused n i → i ≤ 26
refused_small log n i e = fault_small (refused_fault log n i e)

-- ---- the answers of the code

-- the refusal with a number and a block
refusal_of : ℕ → ℕ → LogRefusal
refusal_of n i =
    cond (eqb n 30) WrongLength
    (cond (eqb n 31) (WrongCheck i)
    (cond (eqb n 32) (WrongPlace i)
    (cond (eqb n 33) (WrongLayout i)
    (cond (eqb n 34) NoSuchBlock
    (WrongSetup
    (cond (eqb n 1) WrongPolicy (cond (eqb n 2) WrongCount (cond (eqb n 3) WrongSlice WrongPriorities))))))))

refusal_back : (e : LogRefusal) → refusal_of (log_number e) (log_block e) ≡ e
unfolding refusal_of
refusal_back WrongLength = refl
refusal_back (WrongCheck i) = refl
refusal_back (WrongPlace i) = refl
refusal_back (WrongLayout i) = refl
refusal_back (WrongSetup WrongPolicy) = refl
refusal_back (WrongSetup WrongCount) = refl
refusal_back (WrongSetup WrongSlice) = refl
refusal_back (WrongSetup WrongPriorities) = refl
refusal_back NoSuchBlock = refl

pub refusal_equal : (d f : LogRefusal) → refused (log_number d) (log_block d) ≡ refused (log_number f) (log_block f)
    → d ≡ f
refusal_equal d f e =
    let en : log_number d ≡ log_number f = cc in
    let ei : log_block d ≡ log_block f = cc in
    sym (refusal_back d) ∙ rw (en, ei) (refusal_back f)

told_equal : (x y : Result (Unit {0}) LogRefusal) → told x ≡ told y → x ≡ y
told_equal (Ok x) (Ok y) e = refl
told_equal (Ok x) (Err f) e = refused-not (sym e)
told_equal (Err d) (Ok y) e = refused-not e
told_equal (Err d) (Err f) e = ap Err (refusal_equal d f e)

pub told_determined : (v : Verdict) → Determined (λ (r : Result (Unit {0}) LogRefusal). told r ≡ v)
told_determined v x y p q = told_equal x y (p ∙ sym q)
