-- Looking costs nothing: an advance that is added before a call changes neither its answer nor the state that it
-- leaves. In order: one call, sequences. Assumes nothing.
use Prim.Native.Nat.{ℕ, ◌+◌, ◌-◌, ◌≤◌}
use native.Mathlib.Omega.{arith}
use mathlib.Core.Path.{◌≡◌, refl, sym, ap, ap₂, ◌∙◌, subst}
use mathlib.Core.Logic.{◌⊎◌, inl, inr}
use mathlib.Core.List.{List, [], ◌∷◌}
use borrow.Author.Tests.{le-ltb}
use Rattle.lists.specs.Lists.{total}
use Rattle.rule.specs.State.{State}
use Rattle.rule.specs.Tick.{ticks}
use Rattle.rule.specs.Calls.{moved, drained, opened, Call, request, advance, drain, advance_refusal, request_refusal}
use Rattle.rule.specs.Calls.{refusal, effect, call, Made}
use Rattle.laws.specs.Sound.{Sound}
use Rattle.laws.specs.Sequences.{AllAccepted, reach}
use Rattle.laws.specs.Looks.{Entry, said, added, bare, answers, heard, InTime, Addable}
use Rattle.laws.proofs.Ticks.{ticks_clock, ticks_add, moved_clock, moved_setup, moved_moved}
use Rattle.laws.proofs.Accepted.{advance_accepted, accepted_acts}
use Rattle.laws.proofs.Made.{call_sound, made_sound}
use Rattle.laws.proofs.Drains.{ticks_owed}

-- ---- one call

pub drained_moved : (s : State) (u : ℕ) → Sound s → s.clock ≤ u → u ≤ s.clock + total s.owed
    → drained (moved s u) ≡ drained s
unfolding drained moved
drained_moved s u h l b =
    ap (λ (j : ℕ). ticks j (ticks (u - s.clock) s)) (ticks_owed (u - s.clock) s h)
    ∙ sym (ticks_add (u - s.clock) (total s.owed - (u - s.clock)) s)
    ∙ ap (λ (j : ℕ). ticks j s) (omega arith)

module _ (s : State) (u : ℕ) (h : Sound s) (l : s.clock ≤ u) where
  effect_moved : (c : Call) → u ≤ reach s c → effect (moved s u) c ≡ effect s c
  unfolding effect reach
  effect_moved (request t k a) r = ap (λ (q : State). opened q k a) (moved_moved s u t l r)
  effect_moved (advance t) r = moved_moved s u t l r
  effect_moved drain r = drained_moved s u h l r

  refusal_moved : (c : Call) → u ≤ reach s c → refusal (moved s u) c ≡ refusal s c
  unfolding refusal reach request_refusal advance_refusal
  refusal_moved (request t k a) r =
      rw (
        moved_moved s u t l r,
        le-ltb t (moved s u).clock (omega (arith, moved_clock s u l)),
        le-ltb t s.clock (omega arith),
        moved_setup s u,
      )
  refusal_moved (advance t) r =
      rw (le-ltb t (moved s u).clock (omega (arith, moved_clock s u l)), le-ltb t s.clock (omega arith))
  refusal_moved drain r = refl

  call_moved : (c : Call) → u ≤ reach s c → refusal s c ≡ 0 → call (moved s u) c ≡ call s c
  call_moved c r z =
      accepted_acts (moved s u) c (refusal_moved c r ∙ z) ∙ effect_moved c r ∙ sym (accepted_acts s c z)

  reach_moved : (c : Call) → u ≤ reach s c → reach (moved s u) c ≡ reach s c
  unfolding reach moved
  reach_moved (request t k a) r = refl
  reach_moved (advance t) r = refl
  reach_moved drain r = omega (arith, ticks_clock (u - s.clock) s, ticks_owed (u - s.clock) s h)

pub advanced : (s : State) (u : ℕ) → refusal s (advance u) ≡ 0 → (s.clock ≤ u) × (call s (advance u) ≡ moved s u)
unfolding refusal effect
advanced s u e = ((advance_accepted s u e).later, accepted_acts s (advance u) e)

-- The advance is accepted and the call goes as far or farther: its answer is the same with the advance before it, and
-- so is the state afterwards where it is accepted.
pub looking : (s : State) (u : ℕ) (c : Call) → Sound s → refusal s (advance u) ≡ 0 → u ≤ reach s c
    → (refusal (call s (advance u)) c ≡ refusal s c) × (refusal s c ≡ 0 → call (call s (advance u)) c ≡ call s c)
looking s u c h e r =
    let q = advanced s u e in (
      rw q.1 (refusal_moved s u h q.0 c r),
      λ z. rw q.1 (call_moved s u h q.0 c r z),
    )

-- ---- sequences

-- How far the state with the advances is ahead of the one without: not at all, or at a time that is in time for the
-- next call.
abbrev Ahead : State → State → List Entry → Type 0
Ahead s r es = (r ≡ s) ⊎ ((u : ℕ) × (r ≡ moved s u) × (s.clock ≤ u) × InTime s u es)

call_ahead : (s r : State) (c : Call) (es : List Entry) → Sound s → refusal s c ≡ 0 → Ahead s r (said c ∷ es)
    → (refusal r c ≡ refusal s c) × (call r c ≡ call s c)
unfolding InTime
call_ahead s r c es h z (inl e) = (ap (λ (x : State). refusal x c) e, ap (λ (x : State). call x c) e)
call_ahead s r c es h z (inr (u, e, l, t)) = (
  ap (λ (x : State). refusal x c) e ∙ refusal_moved s u h l c t,
  ap (λ (x : State). call x c) e ∙ call_moved s u h l c t z,
)

in_time_moved : (s : State) (u v : ℕ) (es : List Entry) → Sound s → s.clock ≤ u → InTime s u es
    → InTime (moved s u) v es → InTime s v es
unfolding InTime
in_time_moved s u v [] h l t g = t
in_time_moved s u v (said c ∷ es) h l t g = omega (arith, reach_moved s u h l c t)
in_time_moved s u v (added w ∷ es) h l t g = in_time_moved s u v es h l t g

go_ahead : (s r : State) (v : ℕ) (es : List Entry) → Sound s → Ahead s r (added v ∷ es) → refusal r (advance v) ≡ 0
    → InTime r v es → Ahead s (call r (advance v)) es
unfolding InTime
go_ahead s r v es h (inl e) z t =
    let q = advanced r v z in
    inr (
      v,
      q.1 ∙ ap (λ (x : State). moved x v) e,
      subst (λ (x : State). x.clock ≤ v) e q.0,
      subst (λ (x : State). InTime x v es) e t,
    )
go_ahead s r v es h (inr (u, e, l, t)) z g =
    let q = advanced r v z in
    let c : r.clock ≡ u = ap (λ (x : State). x.clock) e ∙ moved_clock s u l in
    inr (
      v,
      q.1 ∙ ap (λ (x : State). moved x v) e ∙ moved_moved s u v l (omega (arith, q.0)),
      omega (arith, q.0),
      in_time_moved s u v es h l t (subst (λ (x : State). InTime x v es) e g),
    )

hears : (es : List Entry) (s r : State) → Sound s → Ahead s r es → AllAccepted s (bare es) → Addable r es
    → heard r es ≡ answers s (bare es)
unfolding bare answers heard AllAccepted Addable
hears [] s r h a z w = refl
hears (said c ∷ es) s r h a z w =
    let q = call_ahead s r c es h z.0 a in
    ap₂ (λ (x : ℕ × State) (l : List (ℕ × State)). x ∷ l) (λ i. (q.0 i, q.1 i))
    (hears es (call s c) (call r c) (call_sound s c h) (inl q.1) z.1 w)
hears (added v ∷ es) s r h a z w =
    hears es s (call r (advance v)) h (go_ahead s r v es h a w.0 w.1) z w.2

-- All calls of a sequence are accepted, and advances are added that are accepted and in time: each call of the
-- sequence gives the same refusal and leaves the same state as without them.
pub looking_costs_nothing : (s : State) → Made s → (es : List Entry) → AllAccepted s (bare es) → Addable s es
    → heard s es ≡ answers s (bare es)
looking_costs_nothing s m es z w = hears es s s (made_sound s m) (inl refl) z w
