-- Laws of what a block has to be. In order: the number of records; the bytes that must be zero; records counted block
-- by block. Assumes nothing.
use Prim.Native.Nat.{ℕ, zero, suc, ◌+◌, ◌*◌, ◌-◌, ◌≤◌, ◌<◌}
use native.Mathlib.Omega.{arith}
use mathlib.Core.Path.{◌≡◌, refl, ap}
use mathlib.Core.Bool.{true, ◌&&◌, ◌||◌, false≢true}
use mathlib.Core.List.{List}
use lib.Dec.{eqb, leb}
use borrow.Author.Tests.{eq-eqb, ne_eqb, leb-true}
use Rattle.lists.specs.Lists.{within}
use Rattle.lists.proofs.Testing.{equal-or, and_true, within_true}
use Rattle.judging.specs.Blocks.{block, count, records_to, count_fits, first_unused_lem}

-- ---- the number of records

module _ (n i before c : ℕ) where
  -- what a number of records that fits says
  pub record Counted : Type 0 where
    pub some : 1 ≤ c
    pub few : c ≤ 41
    pub full : i + 1 < n → c ≡ 41
    pub most : before + c ≤ 1024

  pub count_fits_lem : count_fits n i before c ≡ true → Counted
  unfolding count_fits
  count_fits_lem e =
      let p = and_true (within 1 41 c && (eqb (i + 1) n || eqb c 41)) (leb (before + c) 1024) e in
      let q = and_true (within 1 41 c) (eqb (i + 1) n || eqb c 41) p.0 in
      let r = within_true 1 41 c q.0 in
      record {
        some = r.0;
        few = r.1;
        full = λ inner.
            equal-or c 41 (λ g. g)
            (λ g. absurd (false≢true (rw (ne_eqb (i + 1) n (λ x. omega arith), ne_eqb c 41 g) at q.1)));
        most = leb-true (before + c) 1024 p.1;
      }

-- ---- the bytes that must be zero

pub unused_from : (n i before : ℕ) (b : List ℕ) → (eqb i 0 || count_fits n i before (count b)) ≡ true
    → first_unused_lem i b ≤ 508
unused_from n i before b e =
    equal-or i 0
    (λ z. rw (eq-eqb i 0 z) (omega arith))
    (λ z.
    let c = count_fits_lem n i before (count b) (rw (ne_eqb i 0 z) at e) in
    rw (ne_eqb i 0 z) (omega (arith, c.few)))

-- ---- records counted block by block

module _ (log : List ℕ) where
  pub records_zero : records_to log 0 ≡ 0
  unfolding records_to
  records_zero = refl

  pub records_more : (i : ℕ) → 0 < i → records_to log i ≡ records_to log (i - 1) + count (block log i)
  unfolding records_to
  records_more zero h = absurd (omega arith)
  records_more (suc k) h = let e : suc k - 1 ≡ k = omega arith in rw e

  -- full blocks up to block i, which is not the last
  pub records_full : (n i : ℕ) {b : List ℕ} → b ≡ block log i → records_to log (i - 1) ≡ 41 * (i - 1)
      → (eqb i 0 || count_fits n i (41 * (i - 1)) (count b)) ≡ true → i + 1 < n
      → records_to log (i + 1 - 1) ≡ 41 * (i + 1 - 1)
  records_full n i {b} g h e inner =
      let s : i + 1 - 1 ≡ i = omega arith in
      rw s
      (equal-or i 0
      (λ z. rw z records_zero)
      (λ z.
      let c = count_fits_lem n i (41 * (i - 1)) (count b) (rw (ne_eqb i 0 z) at e) in
      omega (arith, records_more i (omega arith), ap count g, c.full inner)))
