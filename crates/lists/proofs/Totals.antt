-- Laws of `total`, `at` and `set`. In order: places; totals and one place; totals of parts. Assumes nothing.
use Prim.Native.Nat.{ℕ, zero, suc, ◌+◌, ◌*◌, ◌≤◌, ◌<◌}
use native.Mathlib.Omega.{arith}
use native.Mathlib.Nat.{suc-add, suc-mul, not-suc-le-zero, le_of_suc-le-suc}
use mathlib.Core.Path.{◌≡◌, refl}
use mathlib.Core.List.{List, [], ◌∷◌}
use lib.ListN.{set, length, take, drop, replicate}
use lib.Seq.{get_or-set_same, get_or-set_other}
use Rattle.lists.specs.Lists.{at, total}

-- ---- places

-- an entry that is not 0 stands inside the list
pub at_inside : (l : List ℕ) (k : ℕ) → 0 < at l k → k < length l
at_inside [] k h = omega arith
at_inside (x ∷ xs) zero h = omega arith
at_inside (x ∷ xs) (suc k) h = omega (arith, at_inside xs k h)

pub at_replicate : (n k : ℕ) → at (replicate n 0) k ≡ 0
at_replicate zero k = refl
at_replicate (suc n) zero = refl
at_replicate (suc n) (suc k) = at_replicate n k

pub at_set_same : (l : List ℕ) (i v : ℕ) → i < length l → at (set l i v) i ≡ v
at_set_same l i v h = get_or-set_same l i v 0 h

pub at_set_other : (l : List ℕ) (i v k : ℕ) → (k ≡ i → ⊥) → at (set l i v) k ≡ at l k
at_set_other l i v k n = get_or-set_other l i k v 0 n

-- ---- totals and one place

pub at_le_total : (l : List ℕ) (k : ℕ) → at l k ≤ total l
unfolding total
at_le_total [] k = omega arith
at_le_total (x ∷ xs) zero = omega arith
at_le_total (x ∷ xs) (suc k) = omega (arith, at_le_total xs k)

pub total_set : (l : List ℕ) (i v : ℕ) → i < length l → total (set l i v) + at l i ≡ total l + v
unfolding total
total_set [] i v h = absurd (not-suc-le-zero h)
total_set (x ∷ xs) zero v h = omega arith
total_set (x ∷ xs) (suc i) v h = omega (arith, total_set xs i v (le_of_suc-le-suc h))

pub total_zero : (l : List ℕ) → ((k : ℕ) → at l k ≡ 0) → total l ≡ 0
unfolding total
total_zero [] h = refl
total_zero (x ∷ xs) h = omega (arith, h 0, total_zero xs (λ k. h (suc k)))

-- an entry of a list whose sum is not 0 is not 0 either
pub total_some : (l : List ℕ) → 0 < total l → (k : ℕ) × (0 < at l k)
unfolding total
total_some [] h = absurd (omega arith)
total_some (zero ∷ xs) h = let w = total_some xs (omega arith) in (suc w.0, w.1)
total_some (suc x ∷ xs) h = (0, omega arith)

pub total_le : (l : List ℕ) (m : ℕ) → ((k : ℕ) → at l k ≤ m) → total l ≤ length l * m
unfolding total
total_le [] m h = omega arith
total_le (x ∷ xs) m h = omega (arith, h 0, total_le xs m (λ k. h (suc k)), suc-mul (length xs) m)

-- ---- totals of parts

pub total_split : (k : ℕ) (l : List ℕ) → total (take k l) + total (drop k l) ≡ total l
unfolding total
total_split zero l = omega arith
total_split (suc k) [] = refl
total_split (suc k) (x ∷ l) = omega (arith, total_split k l)

pub total_take : (k : ℕ) (l : List ℕ) → k < length l → total (take (k + 1) l) ≡ total (take k l) + at l k
unfolding total
total_take k [] h = absurd (not-suc-le-zero h)
total_take zero (x ∷ l) h = omega arith
total_take (suc k) (x ∷ l) h = rw (suc-add k 1) (omega (arith, total_take k l (le_of_suc-le-suc h)))
