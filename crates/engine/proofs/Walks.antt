-- Moves of the clock on the parts, on the way to a time. Assumes nothing.
use Prim.Native.Nat.{ℕ, ◌+◌, ◌-◌, ◌≤◌, ◌<◌}
use native.Mathlib.Omega.{arith}
use mathlib.Core.Path.{◌≡◌, sym, ap, ◌∙◌, subst}
use mathlib.Core.List.{List}
use Rattle.rule.specs.State.{State}
use Rattle.rule.specs.Tick.{ticks}
use Rattle.rule.specs.Calls.{moved}
use Rattle.rule.specs.declared.Setup.{Setup}
use Rattle.laws.specs.Sound.{Sound}
use Rattle.laws.proofs.Ticks.{ticks_zero, ticks_add, ticks_clock}
use Rattle.laws.proofs.Sound.{ticks_sound}
use Rattle.legs.specs.Parts.{Kept}
use Rattle.legs.specs.declared.Cursor.{Cursor}
use Rattle.steps.specs.Steps.{stride, Stepped}
use Rattle.steps.proofs.Steps.{stepped_later, stepped_soon}
use Rattle.engine.specs.Promises.{Reached}

-- the parts stand for the state now, which comes of start by ticks
pub record Walking (time : ℕ) (p : Setup) (start : State) (c : Cursor) (q : List ℕ) (now : State) : Type 0 where
  pub kept : Kept p c q
  pub sound : Sound now
  pub since : start.clock ≤ now.clock
  pub until : now.clock ≤ time
  pub shown : now ≡ ticks (now.clock - start.clock) start

module _ {time : ℕ} {p : Setup} {start : State} {c : Cursor} {q : List ℕ} where
  pub walking_start : Kept p c q → Sound start → start.clock ≤ time → Walking time p start c q start
  walking_start K S h =
      let z : 0 ≡ start.clock - start.clock = omega arith in
      record {
        kept = K;
        sound = S;
        since = omega arith;
        until = h;
        shown = sym (ticks_zero start) ∙ ap (λ (k : ℕ). ticks k start) z;
      }

  module _ {now : State} (W : Walking time p start c q now) where
    pub walking_step : {r : Cursor} {q' : List ℕ} {after : State} → now.clock < time
        → Stepped p r q' (time - now.clock) now after → Walking time p start r q' after
    walking_step {r} {q'} {after} h J =
        let a = now.clock - start.clock in
        let b = stride now (time - now.clock) in
        let f : after.clock ≡ now.clock + b = ap (λ (x : State). x.clock) J.shown ∙ ticks_clock b now in
        let e : a + b ≡ after.clock - start.clock = omega (arith, W.since) in
        record {
          kept = J.kept;
          sound = subst Sound (sym J.shown) (ticks_sound b now W.sound);
          since = omega (arith, W.since);
          until = omega (arith, stepped_soon W.sound (omega arith) J);
          shown =
              J.shown
              ∙ ap (ticks b) W.shown
              ∙ sym (ticks_add a b start)
              ∙ ap (λ (k : ℕ). ticks k start) e;
        }

    -- the time is nearer after a step
    pub walking_less : {r : Cursor} {q' : List ℕ} {after : State} → now.clock < time
        → Stepped p r q' (time - now.clock) now after → time - after.clock < time - now.clock
    walking_less h J = omega (arith, stepped_later W.sound (omega arith) J)

    pub walking_end : time ≤ now.clock → Reached p c q (moved start time) now
    unfolding moved
    walking_end h =
        let e : now.clock - start.clock ≡ time - start.clock = omega (arith, W.until) in
        record { kept = W.kept; sound = W.sound; shown = W.shown ∙ ap (λ (k : ℕ). ticks k start) e }
