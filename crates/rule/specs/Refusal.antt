-- Document 01, "Refusal numbers": a call's refusals are a list in the order in which they are judged, each number
-- beside its test. Assumes nothing.
use Rattle.std.specs.Prelude.{ℕ, Bool, cond, List, [], ◌∷◌, Result, Ok, Err}

-- "No." and "Given exactly when"
pub record Refusal : Type 0 where
  pub number : ℕ
  pub holds : Bool

abbrev pub refuse : ℕ → Bool → Refusal
refuse n b = record { number = n; holds = b }

-- "Where several hold, only the first in these orders is given." 0, which is no refusal, where none holds.
abbrev pub first : List Refusal → ℕ
first [] = 0
first (r ∷ rs) = cond r.holds r.number (first rs)

-- an answer's number, where each refusal has one: 0 where it is accepted
abbrev pub number_by : {A E : Type 0} → (E → ℕ) → Result A E → ℕ
number_by number (Ok x) = 0
number_by number (Err e) = number e
