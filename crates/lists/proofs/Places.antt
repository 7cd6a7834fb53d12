-- Laws of lists by their places. In order: a stretch of a list; a copy into a list; entries below a number; a number
-- taken out at its place; zeros behind a place. Assumes nothing.
use Prim.Native.Nat.{ℕ, zero, suc, ◌+◌, ◌-◌, ◌≤◌, ◌<◌}
use native.Mathlib.Omega.{arith}
use native.Mathlib.Numerals.{add-one}
use native.Mathlib.Nat.{not-suc-le-zero, le_of_suc-le-suc}
use mathlib.Core.Path.{◌≡◌, refl, sym, ap, ◌∙◌}
use mathlib.Core.List.{List, [], ◌∷◌, ◌++◌}
use lib.ListN.{length, set, take, drop, replicate, length-drop, replicate-append-replicate}
use lib.Seq.{take-nil, get_or-drop, drop-drop, drop-set-lt, paste, paste-suc}
use borrow.Author.Tests.{ne_eqb}
use Rattle.lists.specs.Lists.{at, Below, times, without}
use Rattle.lists.proofs.Testing.{equal-or, eqb_same}
use Rattle.lists.proofs.Counting.{same_refl, same_equal, same_other, times_at}
use Rattle.lists.proofs.Totals.{at_set_same, at_set_other}

-- ---- a stretch

pub drop_take : (h n : ℕ) (q : List ℕ) → h ≤ n → drop h (take n q) ≡ take (n - h) (drop h q)
drop_take zero n q b = let e : n ≡ n - 0 = omega arith in ap (λ (k : ℕ). take k q) e
drop_take (suc h) zero q b = absurd (not-suc-le-zero b)
drop_take (suc h) (suc n) [] b = sym (take-nil (suc n - suc h))
drop_take (suc h) (suc n) (x ∷ q) b =
    let e : n - h ≡ suc n - suc h = omega arith in
    drop_take h n q (le_of_suc-le-suc b) ∙ ap (λ (k : ℕ). take k (drop h q)) e

pub length_zero : (xs : List ℕ) → length xs ≡ 0 → xs ≡ []
length_zero [] e = refl
length_zero (x ∷ xs) e = absurd (omega arith)

-- ---- a copy

pub paste_next : (into q : List ℕ) (a from k : ℕ) → a + k < length into → from + k < length q
    → set (paste into a (drop from q) k) (a + k) (at q (from + k)) ≡ paste into a (drop from q) (k + 1)
paste_next into q a from k h g =
    ap (λ (v : ℕ). set (paste into a (drop from q) k) (a + k) v) (sym (get_or-drop from q k 0))
    ∙ paste-suc into a (drop from q) k 0 h (simp length-drop (omega arith))
    ∙ ap (λ (j : ℕ). paste into a (drop from q) j) (sym (add-one k))

-- ---- entries below a number

pub below_append : (m : ℕ) (xs ys : List ℕ) → Below m xs → Below m ys → Below m (xs ++ ys)
below_append m [] ys h g k = g k
below_append m (x ∷ xs) ys h g zero = h 0
below_append m (x ∷ xs) ys h g (suc k) = below_append m xs ys (λ j. h (suc j)) g k

pub below_take : (m n : ℕ) (xs : List ℕ) → Below m xs → Below m (take n xs)
below_take m zero xs h k = omega (arith, h 0)
below_take m (suc n) [] h k = h k
below_take m (suc n) (x ∷ xs) h zero = h 0
below_take m (suc n) (x ∷ xs) h (suc k) = below_take m n xs (λ j. h (suc j)) k

pub below_drop : (m n : ℕ) (xs : List ℕ) → Below m xs → Below m (drop n xs)
below_drop m n xs h k = rw (get_or-drop n xs k 0) (h (n + k))

pub below_set : (m i v : ℕ) (xs : List ℕ) → i < length xs → v < m → Below m xs → Below m (set xs i v)
below_set m i v xs l b h k =
    equal-or k i
    (λ e. rw (e, at_set_same xs i v l) b)
    (λ n. rw (at_set_other xs i v k n) (h k))

-- ---- a number taken out

pub without_none : (k : ℕ) (xs : List ℕ) → times k xs ≡ 0 → without k xs ≡ xs
unfolding times without
without_none k [] e = refl
without_none k (x ∷ xs) e =
    equal-or k x
    (λ f. absurd (omega (arith, same_equal k x f)))
    (λ n. rw (ne_eqb k x n) (ap (λ (ys : List ℕ). x ∷ ys) (without_none k xs (omega (arith, same_other k x n)))))

-- of a number that stands once
pub without_place : (xs : List ℕ) (p : ℕ) → p < length xs → times (at xs p) xs ≡ 1
    → without (at xs p) xs ≡ take p xs ++ drop (suc p) xs
unfolding times without
without_place [] p h e = absurd (not-suc-le-zero h)
without_place (x ∷ xs) zero h e = rw (eqb_same x) (without_none x xs (omega (arith, same_refl x)))
without_place (x ∷ xs) (suc p) h e =
    let k : ℕ = at xs p in
    let some : 0 < times k xs = times_at xs p (le_of_suc-le-suc h) in
    let other : k ≡ x → ⊥ = λ f. omega (arith, same_equal k x f) in
    rw (ne_eqb k x other)
    (ap (λ (ys : List ℕ). x ∷ ys) (without_place xs p (le_of_suc-le-suc h) (omega (arith, same_other k x other))))

-- ---- zeros behind a place, as far as to place 32

pub clear_set : (n k : ℕ) (q : List ℕ) → n < 32 → drop n q ≡ replicate (32 - n) 0
    → drop (n + 1) (set q n k) ≡ replicate (32 - (n + 1)) 0
clear_set n k q b z =
    let m : 32 - n ≡ suc (32 - (n + 1)) = omega arith in
    drop-set-lt (n + 1) q n k (omega arith)
    ∙ sym (drop-drop 1 n q)
    ∙ ap (drop 1) (z ∙ ap (λ (j : ℕ). replicate j 0) m)

pub clear_behind : (q : List ℕ) (n : ℕ) → drop n q ≡ replicate (32 - n) 0 → 0 ∷ drop n q ≡ drop n q ++ 0 ∷ []
clear_behind q n z =
    ap (λ (y : List ℕ). 0 ∷ y) z
    ∙ ap (λ (y : ℕ). replicate y 0) (sym (add-one (32 - n)))
    ∙ sym (replicate-append-replicate (32 - n) 1 0)
    ∙ ap (λ (y : List ℕ). y ++ 0 ∷ []) (sym z)
