-- Laws of `zeros`, the test that every entry of a list is 0: what it says of each entry; from a place on; on a
-- stretch. Assumes nothing.
use Prim.Native.Nat.{ℕ, zero, suc, ◌+◌, ◌≤◌, ◌<◌}
use native.Mathlib.Omega.{arith}
use native.Mathlib.Numerals.{add-one}
use mathlib.Core.Path.{◌≡◌, refl, sym, ◌∙◌}
use mathlib.Core.Bool.{true, false, true≢false, ◌&&◌}
use mathlib.Core.List.{List, [], ◌∷◌}
use lib.ListN.{length, take, drop, drop_of_length-le}
use lib.Seq.{drop-cons, slice, get_or-take, length-take-le}
use lib.Dec.{eqb}
use borrow.Author.Tests.{eqb-true, eqb-false, eq-eqb, ne_eqb}
use Rattle.lists.specs.Lists.{at, zeros}
use Rattle.lists.proofs.Testing.{tested, and_true}

-- ---- each entry

pub zeros_true : (l : List ℕ) (i : ℕ) → zeros l ≡ true → at l i ≡ 0
unfolding zeros
zeros_true [] i e = refl
zeros_true (x ∷ xs) zero e = eqb-true x 0 (and_true (eqb x 0) (zeros xs) e).0
zeros_true (x ∷ xs) (suc i) e = zeros_true xs i (and_true (eqb x 0) (zeros xs) e).1

pub zeros_holds : (l : List ℕ) → ((i : ℕ) → at l i ≡ 0) → zeros l ≡ true
unfolding zeros
zeros_holds [] h = refl
zeros_holds (x ∷ xs) h = rw (eq-eqb x 0 (h 0)) (zeros_holds xs (λ i. h (suc i)))

-- some entry is not 0
pub zeros_false : (l : List ℕ) → zeros l ≡ false → (i : ℕ) × (0 < at l i)
unfolding zeros
zeros_false [] e = absurd (true≢false e)
zeros_false (x ∷ xs) e =
    tested (eqb x 0)
    (λ f. let w = zeros_false xs (rw f at e) in (suc w.0, w.1))
    (λ f. (0, omega (arith, eqb-false x 0 f)))

-- ---- from a place on

module _ (l : List ℕ) (i : ℕ) where
  zeros_step : i < length l → zeros (drop i l) ≡ (eqb (at l i) 0 && zeros (drop (i + 1) l))
  unfolding zeros
  zeros_step h = rw (add-one, drop-cons l i 0 h)

  pub zeros_same : i < length l → at l i ≡ 0 → zeros (drop i l) ≡ zeros (drop (i + 1) l)
  zeros_same h e = zeros_step h ∙ rw (eq-eqb (at l i) 0 e)

  pub zeros_other : i < length l → (at l i ≡ 0 → ⊥) → zeros (drop i l) ≡ false
  zeros_other h e = zeros_step h ∙ rw (ne_eqb (at l i) 0 e)

  pub zeros_past : length l ≤ i → zeros (drop i l) ≡ true
  unfolding zeros
  zeros_past h = rw (drop_of_length-le l h)

-- ---- on a stretch that ends before place t
module _ (t : ℕ) (l : List ℕ) (i : ℕ) where
  pub zeros_slice_same : t ≤ length l → i < t → at l i ≡ 0 → zeros (slice i t l) ≡ zeros (slice (i + 1) t l)
  zeros_slice_same h g e =
      zeros_same (take t l) i (rw (length-take-le t l h) g) (get_or-take t l i 0 g ∙ e)

  pub zeros_slice_other : t ≤ length l → i < t → (at l i ≡ 0 → ⊥) → zeros (slice i t l) ≡ false
  zeros_slice_other h g e =
      zeros_other (take t l) i (rw (length-take-le t l h) g) (λ z. e (sym (get_or-take t l i 0 g) ∙ z))

  pub zeros_slice_past : t ≤ length l → t ≤ i → zeros (slice i t l) ≡ true
  zeros_slice_past h g = zeros_past (take t l) i (rw (length-take-le t l h) g)
