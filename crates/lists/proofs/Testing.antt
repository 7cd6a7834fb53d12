-- Laws of tests and of the choice `cond`. In order: a test comes out one way or the other; choices; conjunctions;
-- ranges; a list of refusals that gives 0. Assumes nothing.
use Prim.Native.Nat.{ℕ, suc, ◌≤◌, ◌<◌}
use native.Mathlib.Omega.{arith}
use mathlib.Core.Path.{◌≡◌, refl}
use mathlib.Core.Bool.{Bool, true, false, cond, not, ◌&&◌, false≢true}
use lib.Dec.{eqb, leb}
use borrow.Author.Tests.{eqb-true, eqb-false, eq-eqb, leb-true, le-leb, lt-leb, not-false}
use Rattle.lists.specs.Lists.{within}

-- ---- one way or the other

pub tested {ℓ} : {C : Type ℓ} (b : Bool) → (b ≡ true → C) → (b ≡ false → C) → C
tested true f g = f refl
tested false f g = g refl

pub equal-or {ℓ} : {C : Type ℓ} (k x : ℕ) → (k ≡ x → C) → ((k ≡ x → ⊥) → C) → C
equal-or k x f g = tested (eqb k x) (λ e. f (eqb-true k x e)) (λ e. g (eqb-false k x e))

pub eqb_same : (n : ℕ) → eqb n n ≡ true
eqb_same n = eq-eqb n n refl

-- ---- choices

pub cond-true {ℓ} : {A : Type ℓ} {b : Bool} (x y : A) → b ≡ true → cond b x y ≡ x
cond-true x y e = rw e

pub cond-false {ℓ} : {A : Type ℓ} {b : Bool} (x y : A) → b ≡ false → cond b x y ≡ y
cond-false x y e = rw e

pub cond_same {ℓ} : {A : Type ℓ} (b : Bool) (x : A) → cond b x x ≡ x
cond_same true x = refl
cond_same false x = refl

-- a property of both is one of the choice
pub cond_both {ℓ κ} : {A : Type ℓ} (P : A → Type κ) (b : Bool) (x y : A) → P x → P y → P (cond b x y)
cond_both P true x y p q = p
cond_both P false x y p q = q

-- ---- conjunctions

pub and_true : (a b : Bool) → (a && b) ≡ true → (a ≡ true) × (b ≡ true)
and_true true b e = (refl, e)
and_true false b e = absurd (false≢true e)

-- ---- ranges

pub within_true : (low high n : ℕ) → within low high n ≡ true → (low ≤ n) × (n ≤ high)
within_true low high n e =
    let p = and_true (leb low n) (leb n high) e in
    (leb-true low n p.0, leb-true n high p.1)

pub within_holds : (low high n : ℕ) → low ≤ n → n ≤ high → within low high n ≡ true
within_holds low high n h g = rw (le-leb low n h, le-leb n high g)

pub within_below : (low high n : ℕ) → n < low → within low high n ≡ false
within_below low high n h = rw (lt-leb low n h)

pub within_above : (low high n : ℕ) → high < n → within low high n ≡ false
within_above low high n h = tested (leb low n) (λ e. rw (e, lt-leb n high h)) (λ e. rw e)

-- ---- a list of refusals whose first number is 0 has none that holds

pub passed : (b : Bool) (n m : ℕ) → cond b (suc n) m ≡ 0 → (b ≡ false) × (m ≡ 0)
passed true n m e = absurd (omega arith)
passed false n m e = (refl, e)

pub passed_not : (b : Bool) (n m : ℕ) → cond (not b) (suc n) m ≡ 0 → (b ≡ true) × (m ≡ 0)
passed_not b n m e = let q = passed (not b) n m e in (not-false b q.0, q.1)
