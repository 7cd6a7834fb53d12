-- The drain, and how far a clock goes. In order: what ticks leave owed, the drain, the greatest clock, late calls.
-- Assumes nothing.
use Prim.Native.Nat.{ℕ, zero, suc, ◌+◌, ◌-◌, ◌≤◌, ◌<◌}
use native.Mathlib.Omega.{arith}
use mathlib.Core.Path.{◌≡◌, ap, subst}
use mathlib.Core.Logic.{◌⊎◌, inl, inr, ⊎_elim}
use mathlib.Core.Bool.{cond}
use mathlib.Core.List.{List, [], ◌∷◌}
use lib.Dec.{ltb, eqb}
use borrow.Author.Tests.{eqb-true, ltb-false, lt-ltb}
use Rattle.lists.specs.Lists.{total}
use Rattle.lists.proofs.Testing.{tested, cond-true}
use Rattle.lists.proofs.Totals.{at_le_total, total_some, total_le}
use Rattle.rule.specs.State.{State, fresh}
use Rattle.rule.specs.Tick.{rest, tick, ticks}
use Rattle.rule.specs.Calls.{moved, drained, opened, last_time, most_amount, Call, request, advance, drain}
use Rattle.rule.specs.Calls.{advance_refusal, request_refusal, refusal, effect, call, calls, Made}
use Rattle.laws.specs.Sound.{Sound}
use Rattle.laws.specs.Drains.{Drains, last_clock}
use Rattle.laws.proofs.Ticks.{moved_clock, drained_clock}
use Rattle.laws.proofs.Served.{ticked}
use Rattle.laws.proofs.Accepted.{request_accepted, advance_accepted}
use Rattle.laws.proofs.Sound.{owed_total, tick_sound}
use Rattle.laws.proofs.Made.{none_owed, call_sound, fresh_sound, made_sound}

-- ---- ticks and what is owed

pub tick_owed : (s : State) → Sound s → total (tick s).owed ≡ total s.owed - 1
unfolding rest
tick_owed s h =
    ⊎_elim
    (λ w. omega (arith, none_owed s h w.0, ap (λ (r : State). total r.owed) w.1))
    (λ w. omega (arith, owed_total s (tick s) w.0 h w.1))
    (ticked s)

pub ticks_owed : (n : ℕ) (s : State) → Sound s → total (ticks n s).owed ≡ total s.owed - n
unfolding ticks
ticks_owed zero s h = omega arith
ticks_owed (suc n) s h = omega (arith, ticks_owed n (tick s) (tick_sound s h), tick_owed s h)

pub drained_owed : (s : State) → Sound s → total (drained s).owed ≡ 0
unfolding drained
drained_owed s h = omega (arith, ticks_owed (total s.owed) s h)

-- ---- the drain

pub sound_drains : (s : State) → Sound s → Drains s
sound_drains s h =
    record {
      clock = drained_clock s;
      closed = λ k. omega (arith, at_le_total (drained s).owed k, drained_owed s h);
      first = λ n c. total_some (ticks n s).owed (omega (arith, ticks_owed n s h));
    }

pub drains : (s : State) → Made s → Drains s
drains s m = sound_drains s (made_sound s m)

-- ---- the greatest clock

pub owed_limit : (s : State) → Sound s → total s.owed ≤ 32_000_000
owed_limit s h = omega (arith, rw h.owed32 at (total_le s.owed most_amount h.limit))

-- the clock when all that is owed has been given
abbrev Within : State → Type 0
Within s = s.clock + total s.owed ≤ last_clock

within_effect : (s : State) (c : Call) → Sound s → Sound (effect s c) → refusal s c ≡ 0 → Within s → Within (effect s c)
unfolding effect refusal opened
within_effect s (request t k a) h g e w =
    let q = request_accepted s t k a e in
    omega (arith, owed_limit (opened (moved s t) k a) g, moved_clock s t q.later, q.time)
within_effect s (advance t) h g e w =
    let q = advance_accepted s t e in
    omega (arith, owed_limit (moved s t) g, moved_clock s t q.later, q.time)
within_effect s drain h g e w = omega (arith, drained_clock s, drained_owed s h)

within_call : (s : State) (c : Call) → Sound s → Within s → Within (call s c)
unfolding call
within_call s c h w =
    tested (eqb (refusal s c) 0)
    (λ e. rw e
    (within_effect s c h (rw (cond-true (effect s c) s e) at (call_sound s c h)) (eqb-true (refusal s c) 0 e) w))
    (λ e. rw e w)

within_calls : (s : State) (cs : List Call) → Sound s → Within s → Within (calls s cs)
unfolding calls
within_calls s [] h w = w
within_calls s (c ∷ cs) h w = within_calls (call s c) cs (call_sound s c h) (within_call s c h w)

pub made_within : (s : State) → Made s → s.clock + total s.owed ≤ last_clock
unfolding total
made_within s m =
    subst Within m.reached
    (within_calls (fresh m.from) m.sequence (fresh_sound m.from m.taken) (omega arith))

-- ---- "once the clock is above 4,000,000,000 every timed call is refused, by 10 or 11"

late : (clock t m : ℕ) → last_time < clock
    → let n = cond (ltb last_time t) 10 (cond (ltb t clock) 11 m) in (n ≡ 10) ⊎ (n ≡ 11)
late clock t m h =
    tested (ltb last_time t)
    (λ e. inl (rw e))
    (λ e. inr (rw (e, lt-ltb t clock (omega (arith, ltb-false last_time t e)))))

pub late_request : (s : State) (t k a : ℕ) → last_time < s.clock
    → (request_refusal s t k a ≡ 10) ⊎ (request_refusal s t k a ≡ 11)
unfolding request_refusal
late_request s t k a h = late s.clock t _ h

pub late_advance : (s : State) (t : ℕ) → last_time < s.clock
    → (advance_refusal s.clock t ≡ 10) ⊎ (advance_refusal s.clock t ≡ 11)
unfolding advance_refusal
late_advance s t h = late s.clock t 0 h
