-- What it is that a setup or a call is accepted, and what a refusal leaves. In order: setups, advances, requests,
-- demand 1 for the state, what each call does. Assumes nothing.
use Prim.Native.Nat.{ℕ, ◌+◌, ◌-◌, ◌≤◌, zero-le}
use native.Mathlib.Nat.{le_antisymm}
use native.Mathlib.Omega.{arith}
use mathlib.Core.Path.{◌≡◌, refl, sym, ap, ◌∙◌}
use mathlib.Core.Logic.{◌⊎◌, inl, inr, ⊎_elim, ◌↔◌}
use mathlib.Core.Bool.{true, false, not, ◌||◌}
use lib.ListN.{length, drop}
use lib.Seq.{get_or-drop}
use lib.Dec.{eqb}
use borrow.Author.Tests.{eqb-true, ltb-false, leb-false, eq-eqb, ne_eqb, le-ltb, lt-leb}
use Rattle.lists.specs.Lists.{at, within, zeros}
use Rattle.lists.proofs.Testing.{tested, cond-true, cond-false, cond_both, and_true, within_true, within_holds}
use Rattle.lists.proofs.Testing.{passed, passed_not}
use Rattle.lists.proofs.Zeros.{zeros_true, zeros_holds}
use Rattle.rule.specs.Setups.{is_priority, is_round_robin, most_slice, slice_fits_lem, bytes_fit_lem, setup_refusal_lem}
use Rattle.rule.specs.State.{State}
use Rattle.rule.specs.Calls.{moved, drained, opened, Call, request, advance, drain, last_time, most_amount}
use Rattle.rule.specs.Calls.{advance_refusal, request_refusal, refusal, effect, call}
use Rattle.rule.specs.declared.Setup.{Setup}
use Rattle.laws.specs.Accepted.{clear_from, Taken, Advanced, Requested}
use Rattle.laws.proofs.Ticks.{moved_clock}

-- ---- setups

policy_known : (p : Setup) → (is_priority p || is_round_robin p) ≡ true → (p.policy ≡ 1) ⊎ (p.policy ≡ 2)
policy_known p e =
    tested (is_priority p)
    (λ f. inl (eqb-true p.policy 1 f))
    (λ f. inr (eqb-true p.policy 2 (rw f at e)))

pub is_priority_true : (p : Setup) → p.policy ≡ 1 → is_priority p ≡ true
is_priority_true p e = eq-eqb p.policy 1 e

pub is_priority_false : (p : Setup) → p.policy ≡ 2 → is_priority p ≡ false
is_priority_false p e = ne_eqb p.policy 1 (λ f. omega arith)

pub clear_from_lem : (p : Setup) (i : ℕ) → zeros (drop (clear_from p) p.priority) ≡ true → clear_from p ≤ i
    → at p.priority i ≡ 0
clear_from_lem p i e h =
    ap (at p.priority) (omega arith) ∙ sym (get_or-drop (clear_from p) p.priority (i - clear_from p) 0)
    ∙ zeros_true (drop (clear_from p) p.priority) (i - clear_from p) e

pub setup_taken : (p : Setup) → setup_refusal_lem p ≡ 0 → Taken p
unfolding setup_refusal_lem slice_fits_lem bytes_fit_lem
setup_taken p e =
    let p1 = passed_not _ 0 _ e in
    let p2 = passed_not _ 1 _ p1.1 in
    let p3 = passed_not (slice_fits_lem p.policy p.slice) 2 _ p2.1 in
    let p4 = passed_not (bytes_fit_lem p.policy p.count p.priority) 3 _ p3.1 in
    let counts = within_true 1 32 p.count p2.0 in
    let bytes = and_true (eqb (length p.priority) 32) _ p4.0 in
    record {
      policy = policy_known p p1.0;
      some = counts.0;
      few = counts.1;
      unsliced = λ f. eqb-true p.slice 0 (rw (is_priority_true p f) at p3.0);
      sliced = λ f. within_true 1 most_slice p.slice (rw (is_priority_false p f) at p3.0);
      bytes = eqb-true (length p.priority) 32 bytes.0;
      clear = λ i h. clear_from_lem p i bytes.1 h;
    }

policy_test : (p : Setup) → Taken p → (is_priority p || is_round_robin p) ≡ true
policy_test p h =
    ⊎_elim
    (λ e. rw (is_priority_true p e))
    (λ e. rw (is_priority_false p e) (eq-eqb p.policy 2 e))
    h.policy

slice_test : (p : Setup) → Taken p → slice_fits_lem p.policy p.slice ≡ true
unfolding slice_fits_lem
slice_test p h =
    ⊎_elim
    (λ e. rw (is_priority_true p e) (eq-eqb p.slice 0 (h.unsliced e)))
    (λ e. rw (is_priority_false p e) (within_holds 1 most_slice p.slice (h.sliced e).0 (h.sliced e).1))
    h.policy

bytes_test : (p : Setup) → Taken p → bytes_fit_lem p.policy p.count p.priority ≡ true
unfolding bytes_fit_lem
bytes_test p h =
    rw (eq-eqb (length p.priority) 32 h.bytes)
    (zeros_holds (drop (clear_from p) p.priority)
    (λ i. get_or-drop (clear_from p) p.priority i 0 ∙ h.clear (clear_from p + i) (omega arith)))

pub setup_exact : (p : Setup) → (setup_refusal_lem p ≡ 0) ↔ Taken p
unfolding setup_refusal_lem
setup_exact p = (
  setup_taken p,
  λ h. rw (policy_test p h, within_holds 1 32 p.count h.some h.few, slice_test p h, bytes_test p h),
)

-- a setup's number is at most 4
pub setup_small : (p : Setup) → setup_refusal_lem p ≤ 4
unfolding setup_refusal_lem
setup_small p =
    cond_both Small (not (is_priority p || is_round_robin p)) 1 _ (omega arith)
    (cond_both Small (not (within 1 32 p.count)) 2 _ (omega arith)
    (cond_both Small (not (slice_fits_lem p.policy p.slice)) 3 _ (omega arith)
    (cond_both Small (not (bytes_fit_lem p.policy p.count p.priority)) 4 0 (omega arith) (omega arith))))
  where
    Small : ℕ → Type 0
    Small n = n ≤ 4

-- ---- advances

pub advance_accepted : (s : State) (t : ℕ) → advance_refusal s.clock t ≡ 0 → Advanced s t
unfolding advance_refusal
advance_accepted s t e =
    let p1 = passed _ 9 _ e in
    let p2 = passed _ 10 _ p1.1 in
    record { time = ltb-false last_time t p1.0; later = ltb-false t s.clock p2.0 }

pub advance_exact : (s : State) (t : ℕ) → (advance_refusal s.clock t ≡ 0) ↔ Advanced s t
unfolding advance_refusal
advance_exact s t = (advance_accepted s t, λ q. rw (le-ltb last_time t q.time, le-ltb t s.clock q.later))

-- ---- requests

pub request_accepted : (s : State) (t k a : ℕ) → request_refusal s t k a ≡ 0 → Requested s t k a
unfolding request_refusal
request_accepted s t k a e =
    let p1 = passed _ 9 _ e in
    let p2 = passed _ 10 _ p1.1 in
    let p3 = passed _ 11 _ p2.1 in
    let p4 = passed_not _ 12 _ p3.1 in
    let p5 = passed _ 13 _ p4.1 in
    let amount = within_true 1 most_amount a p4.0 in
    record {
      time = ltb-false last_time t p1.0;
      later = ltb-false t s.clock p2.0;
      task = leb-false s.setup.count k p3.0;
      some = amount.0;
      few = amount.1;
      closed = le_antisymm (ltb-false 0 (at (moved s t).owed k) p5.0) zero-le;
    }

pub request_exact : (s : State) (t k a : ℕ) → (request_refusal s t k a ≡ 0) ↔ Requested s t k a
unfolding request_refusal
request_exact s t k a = (
  request_accepted s t k a,
  λ q. rw (
    le-ltb last_time t q.time,
    le-ltb t s.clock q.later,
    lt-leb s.setup.count k q.task,
    within_holds 1 most_amount a q.some q.few,
    le-ltb 0 (at (moved s t).owed k) (omega (arith, q.closed)),
  ),
)

-- ---- demand 1 for the state: a refused call leaves it, an accepted one has its effect

pub refused_stays : (s : State) (c : Call) → (refusal s c ≡ 0 → ⊥) → call s c ≡ s
unfolding call
refused_stays s c h = cond-false (effect s c) s (ne_eqb (refusal s c) 0 h)

pub accepted_acts : (s : State) (c : Call) → refusal s c ≡ 0 → call s c ≡ effect s c
unfolding call
accepted_acts s c e = cond-true (effect s c) s (eq-eqb (refusal s c) 0 e)

-- ---- what each call does where it is accepted

pub call_request : (s : State) (t k a : ℕ) → refusal s (request t k a) ≡ 0
    → call s (request t k a) ≡ opened (moved s t) k a
unfolding effect
call_request s t k a e = accepted_acts s (request t k a) e

pub request_clock : (s : State) (t k a : ℕ) → refusal s (request t k a) ≡ 0 → (call s (request t k a)).clock ≡ t
unfolding refusal opened
request_clock s t k a e =
    ap (λ (x : State). x.clock) (call_request s t k a e) ∙ moved_clock s t (request_accepted s t k a e).later

-- a request does not change the completions that the move has made
pub request_done : (s : State) (t k a : ℕ) → refusal s (request t k a) ≡ 0
    → (call s (request t k a)).done ≡ (moved s t).done
unfolding opened
request_done s t k a e = ap (λ (x : State). x.done) (call_request s t k a e)

pub refusal_advance : (s : State) (t : ℕ) → refusal s (advance t) ≡ advance_refusal s.clock t
unfolding refusal
refusal_advance s t = refl

pub refusal_drain : (s : State) → refusal s drain ≡ 0
unfolding refusal
refusal_drain s = refl

pub effect_advance : (s : State) (t : ℕ) → effect s (advance t) ≡ moved s t
unfolding effect
effect_advance s t = refl

pub effect_drain : (s : State) → effect s drain ≡ drained s
unfolding effect
effect_drain s = refl

pub refusal_request : (s : State) (t k a : ℕ) → refusal s (request t k a) ≡ request_refusal s t k a
unfolding refusal
refusal_request s t k a = refl

pub effect_request : (s : State) (t k a : ℕ) → effect s (request t k a) ≡ opened (moved s t) k a
unfolding effect
effect_request s t k a = refl
