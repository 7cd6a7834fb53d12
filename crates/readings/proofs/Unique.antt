-- No two different outcomes satisfy the promise of a reading: each definition that tells an answer has one answer for
-- what it tells. Assumes nothing.
use Rattle.std.specs.Prelude.{ℕ, ◌≡◌, Option, None, Some, Result, Ok, Err}
use Rattle.std.proofs.Common.{refl}
use Rattle.rule.specs.Readings.{Reading, value, never, refused, Soonest, nothing, done}
use Rattle.rule.specs.View.{Determined}
use Rattle.laws.proofs.Unique.{by_inverse}
use Rattle.engine.specs.declared.NextDone.{NextDone}
use Rattle.readings.specs.Answers.{ticks_told, completion_told, next_told}
use Rattle.readings.specs.declared.NoSuchTask.{NoSuchTask}

pub ticks_determined : (v : Reading) → Determined (λ (r : Result ℕ NoSuchTask). ticks_told r ≡ v)
ticks_determined = by_inverse ticks_told found again
  where
    found : Reading → Result ℕ NoSuchTask
    found (value n) = Ok n
    found never = Err (record {})
    found (refused n) = Err (record {})

    again : (r : Result ℕ NoSuchTask) → found (ticks_told r) ≡ r
    again (Ok n) = refl
    again (Err e) = refl

pub completion_determined : (v : Reading) → Determined (λ (r : Result (Option ℕ) NoSuchTask). completion_told r ≡ v)
completion_determined = by_inverse completion_told found again
  where
    found : Reading → Result (Option ℕ) NoSuchTask
    found (value n) = Ok (Some n)
    found never = Ok None
    found (refused n) = Err (record {})

    again : (r : Result (Option ℕ) NoSuchTask) → found (completion_told r) ≡ r
    again (Ok (Some n)) = refl
    again (Ok None) = refl
    again (Err e) = refl

pub next_determined : (v : Soonest) → Determined (λ (r : Option NextDone). next_told r ≡ v)
next_determined = by_inverse next_told found again
  where
    found : Soonest → Option NextDone
    found (done k t) = Some (record { task = k; time = t })
    found nothing = None

    again : (r : Option NextDone) → found (next_told r) ≡ r
    again (Some d) = refl
    again None = refl
