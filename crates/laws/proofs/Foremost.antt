-- Who is served. In order: the chosen task stands in the queue; under priority it is the foremost, and there is only
-- one such. Assumes nothing.
use Prim.Native.Nat.{ℕ, ◌+◌, ◌≤◌, ◌<◌}
use native.Mathlib.Nat.{le_refl, le_trans, not-suc-le-zero, le_antisymm}
use native.Mathlib.Omega.{arith}
use mathlib.Core.Path.{◌≡◌, sym}
use mathlib.Core.Bool.{true}
use mathlib.Core.List.{List, [], ◌∷◌}
use lib.ListN.{length}
use lib.Dec.{ltb}
use borrow.Author.Tests.{ltb-true, ltb-false}
use Rattle.lists.specs.Lists.{at, same, times}
use Rattle.lists.proofs.Testing.{tested, equal-or, cond_both}
use Rattle.lists.proofs.Counting.{same_refl, same_other, times_head}
use Rattle.rule.specs.Setups.{is_priority}
use Rattle.rule.specs.Tick.{before, best, chosen}
use Rattle.rule.specs.declared.Setup.{Setup}
use Rattle.laws.specs.Foremost.{Foremost}

-- ---- the chosen task stands in the queue

before_either : (prio : List ℕ) (a b : ℕ) (P : ℕ → Type 0) → P a → P b → P (before prio a b)
unfolding before
before_either prio a b P p q =
    cond_both P (ltb (at prio a) (at prio b)) b _ q
    (cond_both P (ltb (at prio b) (at prio a)) a _ p
    (cond_both P (ltb b a) b a q p))

best_member : (prio : List ℕ) (b : ℕ) (ks : List ℕ) → 0 < times (best prio b ks) (b ∷ ks)
unfolding best times
best_member prio b [] = omega (arith, same_refl b)
best_member prio b (k ∷ ks) =
    let x : ℕ = best prio (before prio b k) ks in
    omega (
      arith,
      best_member prio (before prio b k) ks,
      before_either prio b k (λ (y : ℕ). same x y ≤ same x b + same x k) (omega arith) (omega arith),
    )

pub chosen_member : (p : Setup) (q : List ℕ) → 0 < length q → 0 < times (chosen p q) q
unfolding chosen
chosen_member p [] h = absurd (not-suc-le-zero h)
chosen_member p (x ∷ xs) h =
    cond_both (λ (k : ℕ). 0 < times k (x ∷ xs)) (is_priority p) (best p.priority x xs) x
    (best_member p.priority x xs)
    (times_head x xs)

-- ---- under priority

-- a goes no later than b
record Ahead (prio : List ℕ) (a b : ℕ) : Type 0 where
  greater : at prio b ≤ at prio a
  smaller : at prio b ≡ at prio a → a ≤ b

ahead_refl : (prio : List ℕ) (a : ℕ) → Ahead prio a a
ahead_refl prio a = record { greater = le_refl (at prio a); smaller = λ e. le_refl a }

ahead_trans : (prio : List ℕ) (a b c : ℕ) → Ahead prio a b → Ahead prio b c → Ahead prio a c
ahead_trans prio a b c h g =
    record {
      greater = le_trans g.greater h.greater;
      smaller = λ e.
          let level : at prio b ≡ at prio a = omega (arith, h.greater, g.greater) in
          le_trans (h.smaller level) (g.smaller (omega arith));
    }

before_ahead : (prio : List ℕ) (a b : ℕ) → Ahead prio (before prio a b) a × Ahead prio (before prio a b) b
unfolding before
before_ahead prio a b =
    tested (ltb (at prio a) (at prio b))
    (λ e. rw e (less a b (ltb-true (at prio a) (at prio b) e), ahead_refl prio b))
    (λ e. rw e
    (tested (ltb (at prio b) (at prio a))
    (λ f. rw f (ahead_refl prio a, less b a (ltb-true (at prio b) (at prio a) f)))
    (λ f. rw f
    (let level : at prio a ≡ at prio b =
    omega (arith, ltb-false (at prio a) (at prio b) e, ltb-false (at prio b) (at prio a) f) in
    tested (ltb b a)
    (λ g. rw g (equals a b level (omega (arith, ltb-true b a g)), ahead_refl prio b))
    (λ g. rw g (ahead_refl prio a, equals b a (sym level) (ltb-false b a g)))))))
  where
    less : (x y : ℕ) → at prio x < at prio y → Ahead prio y x
    less x y h = record { greater = omega arith; smaller = λ e. absurd (omega arith) }

    equals : (x y : ℕ) → at prio x ≡ at prio y → y ≤ x → Ahead prio y x
    equals x y e h = record { greater = omega arith; smaller = λ f. h }

best_ahead : (prio : List ℕ) (b : ℕ) (ks : List ℕ) (k : ℕ) → 0 < times k (b ∷ ks) → Ahead prio (best prio b ks) k
unfolding best times
best_ahead prio b [] k h =
    equal-or k b
    (λ e. rw e (ahead_refl prio b))
    (λ n. absurd (omega (arith, same_other k b n)))
best_ahead prio b (x ∷ xs) k h =
    let first : ℕ = before prio b x in
    let on : Ahead prio (best prio first xs) first =
    best_ahead prio first xs first (omega (arith, same_refl first)) in
    equal-or k b
    (λ e. rw e (ahead_trans prio (best prio first xs) first b on (before_ahead prio b x).0))
    (λ n. equal-or k x
    (λ e. rw e (ahead_trans prio (best prio first xs) first x on (before_ahead prio b x).1))
    (λ m. best_ahead prio first xs k (omega (arith, same_other k b n, same_other k x m))))

best_foremost : (prio : List ℕ) (b : ℕ) (ks : List ℕ) → Foremost prio (b ∷ ks) (best prio b ks)
best_foremost prio b ks =
    record {
      stands = best_member prio b ks;
      greatest = λ k m. (best_ahead prio b ks k m).greater;
      smaller = λ k m e. (best_ahead prio b ks k m).smaller e;
    }

pub chosen_foremost : (p : Setup) (q : List ℕ) → is_priority p ≡ true → 0 < length q
    → Foremost p.priority q (chosen p q)
unfolding chosen
chosen_foremost p [] e h = absurd (not-suc-le-zero h)
chosen_foremost p (x ∷ xs) e h = rw e (best_foremost p.priority x xs)

pub foremost_unique : (prio q : List ℕ) (a b : ℕ) → Foremost prio q a → Foremost prio q b → a ≡ b
foremost_unique prio q a b f g =
    let level : at prio a ≡ at prio b = le_antisymm (g.greatest a f.stands) (f.greatest b g.stands) in
    le_antisymm (f.smaller b g.stands (sym level)) (g.smaller a f.stands level)
