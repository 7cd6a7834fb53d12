-- Laws of judging. In order: a verdict on a block; the refusal of a block, rule by rule; the blocks that are left to
-- judge. Assumes nothing.
use Prim.Native.Nat.{ℕ, suc, ◌+◌, ◌*◌, ◌-◌, ◌≤◌, ◌<◌}
use native.Mathlib.Omega.{arith}
use mathlib.Core.Path.{◌≡◌, refl, sym, ◌∙◌}
use mathlib.Core.Bool.{Bool, true, false, cond, not, ◌&&◌, ◌||◌}
use mathlib.Core.List.{List}
use lib.ListN.{length, take, drop, length-drop}
use lib.Seq.{slice, length-take-le}
use lib.Dec.{eqb}
use borrow.Author.Tests.{eq-eqb, ne_eqb}
use Rattle.lists.specs.Lists.{zeros}
use Rattle.lists.proofs.Testing.{equal-or, passed_not}
use Rattle.rule.specs.Setups.{setup_refusal_lem}
use Rattle.judging.specs.Blocks.{blocks, block, check_fits, place_fits, setup_in_lem, count, records_to, count_fits}
use Rattle.judging.specs.Blocks.{first_unused_lem, unused_zero, layout_fits}
use Rattle.judging.proofs.Accepted.{refused-not}
use Rattle.judging.specs.Log.{accepted, refused, at_block, head_refusal, block_refusal_lem, judged_from}

-- ---- a verdict on a block

module _ (i k : ℕ) where
  pub at_block_none : accepted ≡ at_block i k → k ≡ 0
  at_block_none v =
      equal-or k 0 (λ z. z)
      (λ z. let e : accepted ≡ refused k i = rw (ne_eqb k 0 z) at v in refused-not (sym e))

  pub at_block_some : {m j : ℕ} → refused m j ≡ at_block i k → k ≡ 0 → ⊥
  at_block_some v z = refused-not (rw z at v)

  pub at_block_is : (k ≡ 0 → ⊥) → at_block i k ≡ refused k i
  at_block_is z = rw (ne_eqb k 0 z)

-- ---- the refusal of block i, by its bytes b

pub part_block : (log : List ℕ) (i : ℕ) → take (512 * i + 512 - 512 * i) (drop (512 * i) log) ≡ block log i
part_block log i = let e : 512 * i + 512 - 512 * i ≡ 512 = omega arith in rw e

pub length_part : (log : List ℕ) (i : ℕ) → 512 * i + 512 ≤ length log
    → length (take (512 * i + 512 - 512 * i) (drop (512 * i) log)) ≡ 512
length_part log i h =
    let e : 512 * i + 512 - 512 * i ≡ 512 = omega arith in
    rw e (length-take-le 512 (drop (512 * i) log) (rw (length-drop (512 * i) log) (omega arith)))

-- the blocks before have been judged
pub record Before (log : List ℕ) (n i : ℕ) : Type 0 where
  pub size : blocks log ≡ n
  pub full : records_to log (i - 1) ≡ 41 * (i - 1)

-- three tests in their order, then s
abbrev in_order : Bool → Bool → Bool → ℕ → ℕ
in_order a b c s = cond (not a) 31 (cond (not b) 32 (cond (not c) 33 s))

head_stops : (a b c z : Bool) (s : ℕ) → (in_order a b c 0 ≡ 0 → ⊥) → in_order a b (c && z) s ≡ in_order a b c 0
head_stops false b c z s h = refl
head_stops true false c z s h = refl
head_stops true true false z s h = refl
head_stops true true true z s h = absurd (h refl)

head_passes : (a b c z : Bool) (s : ℕ) → in_order a b c 0 ≡ 0 → in_order a b (c && z) s ≡ cond (not z) 33 s
head_passes a b c z s h =
    let p = passed_not a 30 _ h in
    let q = passed_not b 31 _ p.1 in
    rw (p.0, q.0, (passed_not c 32 _ q.1).0)

module _ {log : List ℕ} {n i : ℕ} {b : List ℕ} (p : Before log n i) (e : b ≡ block log i) where
  abbrev sum : Bool
  sum = check_fits b

  abbrev place : Bool
  place = place_fits i b

  abbrev counted : Bool
  counted = eqb i 0 || count_fits n i (41 * (i - 1)) (count b)

  abbrev unused : Bool
  unused = zeros (slice (first_unused_lem i b) 508 b)

  abbrev setup : ℕ
  setup = cond (eqb i 0) (setup_refusal_lem (setup_in_lem b)) 0

  refusal_parts : block_refusal_lem log i ≡ in_order sum place (counted && unused) setup
  unfolding block_refusal_lem layout_fits unused_zero
  refusal_parts = rw (← e, p.size, p.full)

  pub refusal_head : (head_refusal n i b ≡ 0 → ⊥) → block_refusal_lem log i ≡ head_refusal n i b
  refusal_head h = refusal_parts ∙ head_stops sum place counted unused setup h

  module _ (h : head_refusal n i b ≡ 0) where
    pub head_counts : counted ≡ true
    head_counts = (passed_not counted 32 0 (passed_not place 31 _ (passed_not sum 30 _ h).1).1).0

    refusal_passes : block_refusal_lem log i ≡ cond (not unused) 33 setup
    refusal_passes = refusal_parts ∙ head_passes sum place counted unused setup h

    pub refusal_byte : unused ≡ false → block_refusal_lem log i ≡ 33
    refusal_byte z = refusal_passes ∙ rw z

    pub refusal_setup : unused ≡ true → block_refusal_lem log i ≡ setup
    refusal_setup z = refusal_passes ∙ rw z

-- ---- the blocks that are left

module _ (log : List ℕ) (n i : ℕ) where
  judged_step : i < n → judged_from log i (n - i)
      ≡ cond (eqb (block_refusal_lem log i) 0) (judged_from log (i + 1) (n - (i + 1))) (refused (block_refusal_lem log i) i)
  unfolding judged_from
  judged_step h = let e : n - i ≡ suc (n - (i + 1)) = omega arith in rw e

  pub judged_good : i < n → block_refusal_lem log i ≡ 0 → judged_from log i (n - i) ≡ judged_from log (i + 1) (n - (i + 1))
  judged_good h e = judged_step h ∙ rw (eq-eqb (block_refusal_lem log i) 0 e)

  pub judged_refused : (k : ℕ) → i < n → block_refusal_lem log i ≡ k → (k ≡ 0 → ⊥) → judged_from log i (n - i) ≡ refused k i
  judged_refused k h e z = judged_step h ∙ rw (e, ne_eqb k 0 z)

  pub judged_end : n ≤ i → judged_from log i (n - i) ≡ accepted
  unfolding judged_from
  judged_end h = let e : n - i ≡ 0 = omega arith in rw e
