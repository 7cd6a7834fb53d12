-- Laws of `times`, how often a number stands in a list. In order: `same`; `times` of a list that is put together or
-- has a number taken out; lists in which nothing stands twice. Assumes nothing.
use Prim.Native.Nat.{ℕ, zero, suc, ◌+◌, ◌≤◌, ◌<◌, zero-le}
use native.Mathlib.Omega.{arith}
use native.Mathlib.Nat.{le_refl, not-suc-le-zero, le_of_suc-le-suc}
use lib.Arith.{lt_of_le-ne}
use mathlib.Core.Path.{◌≡◌, refl, sym, ◌∙◌}
use mathlib.Core.List.{List, [], ◌∷◌, ◌++◌}
use lib.ListN.{length}
use borrow.Author.Tests.{eq-eqb, ne_eqb}
use Rattle.lists.specs.Lists.{at, same, times, without}
use Rattle.lists.proofs.Testing.{equal-or, cond-true, cond-false}

-- ---- same

pub same_equal : (k x : ℕ) → k ≡ x → same k x ≡ 1
unfolding same
same_equal k x e = cond-true 1 0 (eq-eqb k x e)

pub same_refl : (k : ℕ) → same k k ≡ 1
same_refl k = same_equal k k refl

pub same_other : (k x : ℕ) → (k ≡ x → ⊥) → same k x ≡ 0
unfolding same
same_other k x h = cond-false 1 0 (ne_eqb k x h)

-- ---- times

pub times_nil : (k : ℕ) → times k [] ≡ 0
unfolding times
times_nil k = refl

pub times_cons : (k x : ℕ) (xs : List ℕ) → times k (x ∷ xs) ≡ same k x + times k xs
unfolding times
times_cons k x xs = refl

pub times_append : (k : ℕ) (xs ys : List ℕ) → times k (xs ++ ys) ≡ times k xs + times k ys
unfolding times
times_append k [] ys = omega arith
times_append k (x ∷ xs) ys = omega (arith, times_append k xs ys)

pub times_head : (k : ℕ) (xs : List ℕ) → 0 < times k (k ∷ xs)
unfolding times
times_head k xs = omega (arith, same_refl k)

-- an entry stands in its list
pub times_at : (xs : List ℕ) (i : ℕ) → i < length xs → 0 < times (at xs i) xs
unfolding times
times_at [] i h = absurd (not-suc-le-zero h)
times_at (x ∷ xs) zero h = omega (arith, same_refl x)
times_at (x ∷ xs) (suc i) h = omega (arith, times_at xs i (le_of_suc-le-suc h))

pub times_without_same : (k : ℕ) (xs : List ℕ) → times k (without k xs) ≡ 0
unfolding times without
times_without_same k [] = refl
times_without_same k (x ∷ xs) =
    equal-or k x
    (λ e. rw (eq-eqb k x e) (times_without_same k xs))
    (λ n. rw (ne_eqb k x n) (omega (arith, same_other k x n, times_without_same k xs)))

pub times_without_other : (k i : ℕ) (xs : List ℕ) → (k ≡ i → ⊥) → times k (without i xs) ≡ times k xs
unfolding times without
times_without_other k i [] h = refl
times_without_other k i (x ∷ xs) h =
    equal-or i x
    (λ e. rw (eq-eqb i x e) (omega (arith, same_other k x (λ g. h (g ∙ sym e)), times_without_other k i xs h)))
    (λ n. rw (ne_eqb i x n) (omega (arith, times_without_other k i xs h)))

pub times_without_le : (k i : ℕ) (xs : List ℕ) → times k (without i xs) ≤ times k xs
times_without_le k i xs =
    equal-or k i
    (λ e. rw (e, times_without_same i xs) zero-le)
    (λ n. rw (times_without_other k i xs n) (le_refl (times k xs)))

pub length_without : (k : ℕ) (xs : List ℕ) → length (without k xs) + times k xs ≡ length xs
unfolding times without
length_without k [] = refl
length_without k (x ∷ xs) =
    equal-or k x
    (λ e. rw (eq-eqb k x e) (omega (arith, same_equal k x e, length_without k xs)))
    (λ n. rw (ne_eqb k x n) (omega (arith, same_other k x n, length_without k xs)))

-- ---- nothing stands twice

pub times_none : (xs : List ℕ) → ((k : ℕ) → times k xs ≡ 0) → xs ≡ []
unfolding times
times_none [] none = refl
times_none (x ∷ xs) none = absurd (omega (arith, none x, same_refl x))

-- numbers below n, each at most once, are at most n
pub length_once : (n : ℕ) (xs : List ℕ) → ((k : ℕ) → times k xs ≤ 1) → ((k : ℕ) → n ≤ k → times k xs ≡ 0)
    → length xs ≤ n
length_once zero xs once none = rw (times_none xs (λ k. none k zero-le)) zero-le
length_once (suc n) xs once none =
    omega (
      arith,
      length_without n xs,
      once n,
      length_once n (without n xs)
          (λ k. omega (arith, once k, times_without_le k n xs))
          (λ k h.
          equal-or k n
          (λ e. rw e (times_without_same n xs))
          (λ u. omega (arith, times_without_le k n xs, none k (lt_of_le-ne h (λ g. u (sym g)))))),
    )
