-- Demand 1's numbers: a setup, a table and a call are refused exactly when a listed reason holds and none before it
-- does, and accepted where none holds. In order: lists of reasons, what the tests mean, the lists. Assumes nothing.
use Prim.Native.Nat.{ℕ, suc, ◌+◌, ◌≤◌, ◌<◌}
use native.Mathlib.Omega.{arith}
use mathlib.Core.Path.{◌≡◌, refl, sym, ◌∙◌}
use mathlib.Core.Logic.{◌⊎◌, inl, inr, ⊎_elim, ◌↔◌}
use mathlib.Core.Bool.{Bool, true, false, cond, not, ◌&&◌, ◌||◌, true≢false}
use mathlib.Core.List.{List, [], ◌∷◌, map}
use lib.ListN.{length, drop}
use lib.Seq.{get_or-drop}
use lib.Dec.{ltb, leb, eqb}
use borrow.Author.Tests.{not-true, eqb-true, eqb-false, ltb-true, leb-true, leb-false, eq-eqb, ne_eqb, lt-ltb, le-leb}
use Rattle.lists.specs.Lists.{at, within, zeros}
use Rattle.lists.proofs.Testing.{tested, equal-or, cond-true, cond-false, within_below, within_above}
use Rattle.lists.proofs.Zeros.{zeros_false}
use Rattle.rule.specs.Refusal.{Refusal, first}
use Rattle.rule.specs.Setups.{is_priority, is_round_robin, most_slice, slice_fits_lem, bytes_fit_lem, setup_refusal_lem}
use Rattle.rule.specs.State.{State}
use Rattle.rule.specs.Calls.{moved, Call, request, advance, drain, last_time, most_amount, advance_refusal}
use Rattle.rule.specs.Calls.{request_refusal, refusal}
use Rattle.rule.specs.Table.{most_rows, column_refusal_lem, table_refusal}
use Rattle.rule.specs.declared.Setup.{Setup}
use Rattle.laws.specs.Accepted.{clear_from}
use Rattle.laws.specs.Reasons.{Reason, reason, Judged, PolicyUnknown, SliceUnfit, BytesUnfit, setup_reasons}
use Rattle.laws.specs.Reasons.{table_reasons, advance_reasons, request_reasons, reasons}
use Rattle.laws.proofs.Accepted.{is_priority_true, is_priority_false, clear_from_lem}

-- ---- lists of reasons

judged_nil : (n : ℕ) → (0 ≡ n) ↔ Judged [] n
unfolding Judged
judged_nil n = (sym, sym)

-- b tests the reason P, and the rest of the list is judged where P does not hold
judged_cons : {P : Type 0} (rs : List Reason) (b : Bool) (m x n : ℕ)
    → (b ≡ true) ↔ P
    → ((P → ⊥) → (x ≡ n) ↔ Judged rs n)
    → (cond b m x ≡ n) ↔ Judged (reason m P ∷ rs) n
unfolding Judged
judged_cons {P} rs b m x n test more =
    tested b
    (λ e. (
      λ f. inl (test.0 e, sym f ∙ cond-true m x e),
      ⊎_elim
          (λ w. cond-true m x e ∙ sym w.1)
          (λ w. absurd (w.0 (test.0 e))),
    ))
    (λ e.
    let no : P → ⊥ = λ p. true≢false (sym (test.1 p) ∙ e) in (
      λ f. inr (no, (more no).0 (sym (cond-false m x e) ∙ f)),
      ⊎_elim
          (λ w. absurd (no w.0))
          (λ w. cond-false m x e ∙ (more no).1 w.1),
    ))

-- a list of reasons gives one number
pub judged_unique : (rs : List Reason) (m n : ℕ) → Judged rs m → Judged rs n → m ≡ n
unfolding Judged
judged_unique [] m n j k = j ∙ sym k
judged_unique (r ∷ rs) m n (inl j) (inl k) = j.1 ∙ sym k.1
judged_unique (r ∷ rs) m n (inl j) (inr k) = absurd (k.0 j.0)
judged_unique (r ∷ rs) m n (inr j) (inl k) = absurd (j.0 k.0)
judged_unique (r ∷ rs) m n (inr j) (inr k) = judged_unique rs m n j.1 k.1

-- Any list of tests: `first` gives the number of the first that holds, and 0 where none does.
pub first_judged : (rs : List Refusal) (n : ℕ)
    → (first rs ≡ n) ↔ Judged (map (λ (r : Refusal). reason r.number (r.holds ≡ true)) rs) n
first_judged [] n = judged_nil n
first_judged (r ∷ rs) n =
    judged_cons _ r.holds r.number (first rs) n (λ e. e, λ e. e) (λ h. first_judged rs n)

-- ---- tests and what they mean

less : (a b : ℕ) → (ltb a b ≡ true) ↔ (a < b)
less a b = (ltb-true a b, lt-ltb a b)

at_most : (a b : ℕ) → (leb a b ≡ true) ↔ (a ≤ b)
at_most a b = (leb-true a b, le-leb a b)

outside : (high n : ℕ) → (not (within 1 high n) ≡ true) ↔ ((n ≡ 0) ⊎ (high < n))
outside high n = (
  λ e. tested (leb 1 n)
      (λ f. tested (leb n high)
      (λ g. absurd (true≢false (sym (rw (f, g) at e))))
      (λ g. inr (leb-false n high g)))
      (λ f. inl (omega (arith, leb-false 1 n f))),
  ⊎_elim
      (λ e. rw (within_below 1 high n (omega arith)))
      (λ h. rw (within_above 1 high n h)),
)

policy_unknown : (p : Setup) → (not (is_priority p || is_round_robin p) ≡ true) ↔ PolicyUnknown p
policy_unknown p = (
  λ e. (
    λ f. true≢false (sym (rw (is_priority_true p f) at e)),
    λ f. true≢false (sym (rw (is_priority_false p f, eq-eqb p.policy 2 f) at e)),
  ),
  λ w. rw (ne_eqb p.policy 1 w.0, ne_eqb p.policy 2 w.1),
)

-- where the policy is known, it is round robin if it is not priority
robin : (p : Setup) → (PolicyUnknown p → ⊥) → is_priority p ≡ false → p.policy ≡ 2
robin p h e = equal-or p.policy 2 (λ f. f) (λ n. absurd (h (eqb-false p.policy 1 e, n)))

slice_unfit : (p : Setup) → (PolicyUnknown p → ⊥) → (not (slice_fits_lem p.policy p.slice) ≡ true) ↔ SliceUnfit p
unfolding slice_fits_lem
slice_unfit p h = (
  λ e. tested (is_priority p)
      (λ f.
      let some : p.slice ≡ 0 → ⊥ = eqb-false p.slice 0 (not-true (eqb p.slice 0) (rw f at e)) in
      inl (eqb-true p.policy 1 f, omega arith))
      (λ f. inr (robin p h f, (outside most_slice p.slice).0 (rw f at e))),
  ⊎_elim
      (λ w. rw (is_priority_true p w.0, ne_eqb p.slice 0 (λ z. omega (arith, w.1))))
      (λ w. rw (is_priority_false p w.0) ((outside most_slice p.slice).1 w.1)),
)

-- a byte that must be 0 and is not
bytes_not : (p : Setup) (i : ℕ) → clear_from p ≤ i → 0 < at p.priority i
    → zeros (drop (clear_from p) p.priority) ≡ true → ⊥
bytes_not p i l some g = omega (arith, clear_from_lem p i g l)

bytes_unfit : (p : Setup) → (not (bytes_fit_lem p.policy p.count p.priority) ≡ true) ↔ BytesUnfit p
unfolding bytes_fit_lem
bytes_unfit p =
    let rest : List ℕ = drop (clear_from p) p.priority in (
      λ e. tested (eqb (length p.priority) 32)
          (λ f. tested (zeros rest)
          (λ g. absurd (true≢false (sym (rw (f, g) at e))))
          (λ g.
          let w = zeros_false rest g in
          inr (clear_from p + w.0, omega arith, rw (get_or-drop (clear_from p) p.priority w.0 0) at w.1)))
          (λ f. inl (eqb-false (length p.priority) 32 f)),
      ⊎_elim
          (λ n. rw (ne_eqb (length p.priority) 32 n))
          (λ w. tested (zeros rest)
          (λ g. absurd (bytes_not p w.0 w.1 w.2 g))
          (λ g. tested (eqb (length p.priority) 32) (λ f. rw (f, g)) (λ f. rw f))),
    )

-- ---- the lists

pub setup_judged : (p : Setup) (n : ℕ) → (setup_refusal_lem p ≡ n) ↔ Judged (setup_reasons p) n
unfolding setup_refusal_lem
setup_judged p n =
    judged_cons _ _ 1 _ n (policy_unknown p)
    (λ h. judged_cons _ _ 2 _ n (outside 32 p.count)
    (λ a. judged_cons _ _ 3 _ n (slice_unfit p h)
    (λ b. judged_cons _ _ 4 _ n (bytes_unfit p) (λ d. judged_nil n))))

-- a list of refusals behind another
first_through : (b : Bool) (m x y : ℕ)
    → cond (eqb (cond b (suc m) x) 0) y (cond b (suc m) x) ≡ cond b (suc m) (cond (eqb x 0) y x)
first_through true m x y = rw (ne_eqb (suc m) 0 (λ e. omega arith))
first_through false m x y = refl

unequal : (times tasks amounts : ℕ)
    → (not (eqb tasks times && eqb amounts times) ≡ true) ↔ ((tasks ≡ times → ⊥) ⊎ (amounts ≡ times → ⊥))
unequal times tasks amounts = (
  λ e. tested (eqb tasks times)
      (λ f. inr (eqb-false amounts times (not-true (eqb amounts times) (rw f at e))))
      (λ f. inl (eqb-false tasks times f)),
  ⊎_elim
      (λ n. rw (ne_eqb tasks times n))
      (λ n. tested (eqb tasks times) (λ f. rw (f, ne_eqb amounts times n)) (λ f. rw f)),
)

pub table_judged : (p : Setup) (times tasks amounts room n : ℕ)
    → (table_refusal p times tasks amounts room ≡ n) ↔ Judged (table_reasons p times tasks amounts room) n
unfolding table_refusal setup_refusal_lem column_refusal_lem
table_judged p times tasks amounts room n =
    rw (first_through, first_through, first_through, first_through)
    (judged_cons _ _ 1 _ n (policy_unknown p)
    (λ h. judged_cons _ _ 2 _ n (outside 32 p.count)
    (λ x2. judged_cons _ _ 3 _ n (slice_unfit p h)
    (λ x3. judged_cons _ _ 4 _ n (bytes_unfit p)
    (λ x4. judged_cons _ _ 20 _ n (unequal times tasks amounts)
    (λ x5. judged_cons _ _ 21 _ n (less most_rows times)
    (λ x6. judged_cons _ _ 22 _ n (less room times) (λ x7. judged_nil n))))))))

pub advance_judged : (s : State) (t n : ℕ) → (advance_refusal s.clock t ≡ n) ↔ Judged (advance_reasons s t) n
unfolding advance_refusal
advance_judged s t n =
    judged_cons _ _ 10 _ n (less last_time t)
    (λ a. judged_cons _ _ 11 _ n (less t s.clock) (λ b. judged_nil n))

pub request_judged : (s : State) (t k a n : ℕ) → (request_refusal s t k a ≡ n) ↔ Judged (request_reasons s t k a) n
unfolding request_refusal
request_judged s t k a n =
    judged_cons _ _ 10 _ n (less last_time t)
    (λ x1. judged_cons _ _ 11 _ n (less t s.clock)
    (λ x2. judged_cons _ _ 12 _ n (at_most s.setup.count k)
    (λ x3. judged_cons _ _ 13 _ n (outside most_amount a)
    (λ x4. judged_cons _ _ 14 _ n (less 0 (at (moved s t).owed k)) (λ x5. judged_nil n)))))

-- A call's number is that of the first listed reason that holds, and 0 where none does.
pub refusal_judged : (s : State) (c : Call) (n : ℕ) → (refusal s c ≡ n) ↔ Judged (reasons s c) n
unfolding refusal reasons
refusal_judged s (request t k a) n = request_judged s t k a n
refusal_judged s (advance t) n = advance_judged s t n
refusal_judged s drain n = judged_nil n
