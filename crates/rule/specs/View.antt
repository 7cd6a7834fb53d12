-- Document 01, "What proofs have to settle": a run as the rule's state, and what a setup and a call promise of the
-- run that they give. Assumes nothing.
use Rattle.std.specs.Prelude.{ℕ, ◌-◌, ◌≤◌, ◌≡◌, List, take, drop, length, replicate}
use Rattle.rule.specs.Setups.{setup_refusal_lem, or_plain}
use Rattle.rule.specs.State.{State, fresh}
use Rattle.rule.specs.Calls.{Call, refusal, call, Made}
use Rattle.rule.specs.declared.Setup.{Setup}
use Rattle.rule.specs.declared.Run.{Run}

-- The state that a run stands for: the queue is the first part of its array.
abbrev pub view : Run → State
view r =
    record {
      setup = r.setup;
      clock = r.clock;
      idle = r.idle;
      used = r.used;
      queue = take r.queued r.queue;
      owed = r.owed;
      given = r.given;
      done = r.done;
    }

-- n tasks stand at the first of an array's 32 places, and 0 behind them
pub record Clear (n : ℕ) (q : List ℕ) : Type 0 where
  pub fits : n ≤ 32
  pub whole : length q ≡ 32
  pub clear : drop n q ≡ replicate (32 - n) 0

-- The queue's array holds 0 behind the queue: so a tidy run is fixed by its view.
abbrev pub Tidy : Run → Type 0
Tidy r = Clear r.queued r.queue

-- "A call may require that the run .. was made by a setup .. and calls on it."
pub record MadeRun (r : Run) : Type 0 where
  pub tidy : Tidy r
  pub made : Made (view r)

-- The run r is tidy and stands for the state s.
pub record Shows (r : Run) (s : State) : Type 0 where
  pub tidy : Tidy r
  pub shown : view r ≡ s

-- A setup's number (0: accepted) and run: the fresh run of the setup, or of `plain` where it is refused.
pub record Started (p : Setup) (number : ℕ) (r : Run) : Type 0 where
  pub answer : number ≡ setup_refusal_lem p
  pub run : Shows r (fresh (or_plain p))

-- "Every public call has a promise that determines its answer, the run afterwards ..": a call's number (0: accepted)
-- and the run.
pub record Promised (before : Run) (c : Call) (number : ℕ) (after : Run) : Type 0 where
  pub answer : number ≡ refusal (view before) c
  pub run : Shows after (call (view before) c)

-- "Show that no two different outcomes satisfy it."
abbrev pub Determined {ℓ κ} : {A : Type ℓ} → (A → Type κ) → Type (ℓ ⊔ κ)
Determined {A = A} P = (x y : A) → P x → P y → x ≡ y
