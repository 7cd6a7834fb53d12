-- The refusals that are judged before the clock moves: which numbers they are, and what they show. In order: times;
-- requests; requests with the refusal after the move. Assumes nothing.
use Prim.Native.Nat.{ℕ, ◌≤◌, ◌<◌}
use native.Mathlib.Omega.{arith}
use mathlib.Core.Path.{◌≡◌, refl, ◌∙◌}
use mathlib.Core.Bool.{Bool, true, false, cond, not}
use lib.Dec.{eqb, ltb, leb}
use borrow.Author.Tests.{eq-eqb, ne_eqb, lt-ltb, le-ltb, ltb-false, leb-false}
use Rattle.lists.specs.Lists.{at, within}
use Rattle.lists.proofs.Testing.{cond-true, cond-false, passed}
use Rattle.rule.specs.State.{State, is_open}
use Rattle.rule.specs.Calls.{moved, last_time, most_amount, advance_refusal, request_refusal}
use Rattle.requests.specs.Early.{early_refusal_lem}

-- ---- times

abbrev two : Bool → Bool → ℕ → ℕ
two a b n = cond a 10 (cond b 11 n)

two_first : (a b : Bool) (n : ℕ) → (two a b 0 ≡ 0 → ⊥) → two a b 0 ≡ two a b n
two_first true b n h = refl
two_first false true n h = refl
two_first false false n h = absurd (h refl)

pub time_first : (count clock t k a : ℕ) → (advance_refusal clock t ≡ 0 → ⊥)
    → advance_refusal clock t ≡ early_refusal_lem count clock t k a
unfolding advance_refusal early_refusal_lem
time_first count clock t k a = two_first (ltb last_time t) (ltb t clock) _

two_between : (a b : Bool) → (two a b 0 ≡ 0 → ⊥) → (10 ≤ two a b 0) × (two a b 0 ≤ 13)
two_between true b h = (omega arith, omega arith)
two_between false true h = (omega arith, omega arith)
two_between false false h = absurd (h refl)

pub time_between : (clock t : ℕ) → (advance_refusal clock t ≡ 0 → ⊥)
    → (10 ≤ advance_refusal clock t) × (advance_refusal clock t ≤ 13)
unfolding advance_refusal
time_between clock t = two_between (ltb last_time t) (ltb t clock)

pub time_passed : (clock t : ℕ) → advance_refusal clock t ≡ 0 → (t ≤ last_time) × (clock ≤ t)
unfolding advance_refusal
time_passed clock t e =
    let p10 = passed (ltb last_time t) 9 _ e in
    let p11 = passed (ltb t clock) 10 _ p10.1 in
    (ltb-false last_time t p10.0, ltb-false t clock p11.0)

-- ---- requests

abbrev four : Bool → Bool → Bool → Bool → ℕ → ℕ
four a b c d n = cond a 10 (cond b 11 (cond c 12 (cond d 13 n)))

four_between : (a b c d : Bool) → (four a b c d 0 ≡ 0 → ⊥) → (10 ≤ four a b c d 0) × (four a b c d 0 ≤ 13)
four_between true b c d h = (omega arith, omega arith)
four_between false true c d h = (omega arith, omega arith)
four_between false false true d h = (omega arith, omega arith)
four_between false false false true h = (omega arith, omega arith)
four_between false false false false h = absurd (h refl)

-- what a request that is not refused before the clock moves has shown
pub record Passed (count clock t k : ℕ) : Type 0 where
  pub time : t ≤ last_time
  pub later : clock ≤ t
  pub task : k < count

pub early_passed : (count clock t k a : ℕ) → early_refusal_lem count clock t k a ≡ 0 → Passed count clock t k
unfolding early_refusal_lem
early_passed count clock t k a e =
    let p10 = passed (ltb last_time t) 9 _ e in
    let p11 = passed (ltb t clock) 10 _ p10.1 in
    let p12 = passed (leb count k) 11 _ p11.1 in
    record {
      time = ltb-false last_time t p10.0;
      later = ltb-false t clock p11.0;
      task = leb-false count k p12.0;
    }

-- ---- requests with the refusal after the move

judged : (a b c d e : Bool)
    → four a b c d (cond e 14 0) ≡ cond (eqb (four a b c d 0) 0) (cond e 14 0) (four a b c d 0)
judged true b c d e = refl
judged false true c d e = refl
judged false false true d e = refl
judged false false false true e = refl
judged false false false false e = refl

module _ (s : State) (t k a : ℕ) where
  abbrev pub early : ℕ
  early = early_refusal_lem s.setup.count s.clock t k a

  refusal_early : request_refusal s t k a ≡ cond (eqb early 0) (cond (is_open (moved s t) k) 14 0) early
  unfolding request_refusal early_refusal_lem
  refusal_early =
      judged (ltb last_time t) (ltb t s.clock) (leb s.setup.count k) (not (within 1 most_amount a))
      (is_open (moved s t) k)

  pub early_between : (early ≡ 0 → ⊥) → (10 ≤ early) × (early ≤ 13)
  unfolding early_refusal_lem
  early_between =
      four_between (ltb last_time t) (ltb t s.clock) (leb s.setup.count k) (not (within 1 most_amount a))

  pub refusal_now : (early ≡ 0 → ⊥) → request_refusal s t k a ≡ early
  refusal_now h = refusal_early ∙ cond-false _ early (ne_eqb early 0 h)

  pub refusal_open : early ≡ 0 → 0 < at (moved s t).owed k → request_refusal s t k a ≡ 14
  refusal_open e h =
      refusal_early ∙ cond-true _ early (eq-eqb early 0 e) ∙ cond-true 14 0 (lt-ltb 0 (at (moved s t).owed k) h)

  pub refusal_none : early ≡ 0 → at (moved s t).owed k ≡ 0 → request_refusal s t k a ≡ 0
  refusal_none e h =
      refusal_early
      ∙ cond-true _ early (eq-eqb early 0 e)
      ∙ cond-false 14 0 (le-ltb 0 (at (moved s t).owed k) (omega arith))
