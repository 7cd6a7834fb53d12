-- Document 01, "Refusal numbers", as facts: for a setup, a table and each call the list of its refusals, in the order
-- in which they are judged, each number beside its "Given exactly when". The rule's tests mean these
-- (`setup_judged`, `table_judged`, `refusal_judged`). Assumes nothing.
use Rattle.std.specs.Prelude.{ℕ, ◌≤◌, ◌<◌, ◌≡◌, ◌⊎◌, List, [], ◌∷◌, ◌++◌, length}
use Rattle.lists.specs.Lists.{at}
use Rattle.rule.specs.Setups.{most_slice}
use Rattle.rule.specs.State.{State}
use Rattle.rule.specs.Calls.{moved, last_time, most_amount, Call, request, advance, drain}
use Rattle.rule.specs.Table.{most_rows}
use Rattle.rule.specs.declared.Setup.{Setup}
use Rattle.laws.specs.Accepted.{clear_from}

-- "No." and "Given exactly when"
pub record Reason : Type 1 where
  pub number : ℕ
  pub when : Type 0

abbrev pub reason : ℕ → Type 0 → Reason
reason n P = record { number = n; when = P }

-- "Where several hold, only the first in these orders is given." n is the number of a reason that holds while none
-- before it does, and 0 where none holds.
unfoldable pub Judged : List Reason → ℕ → Type 0
Judged [] n = n ≡ 0
Judged (r ∷ rs) n = (r.when × (n ≡ r.number)) ⊎ ((r.when → ⊥) × Judged rs n)

-- ---- the lists

-- "policy not 1 or 2"
abbrev pub PolicyUnknown : Setup → Type 0
PolicyUnknown p = (p.policy ≡ 1 → ⊥) × (p.policy ≡ 2 → ⊥)

-- "slice not as the policy asks"
abbrev pub SliceUnfit : Setup → Type 0
SliceUnfit p =
    ((p.policy ≡ 1) × (0 < p.slice)) ⊎ ((p.policy ≡ 2) × ((p.slice ≡ 0) ⊎ (most_slice < p.slice)))

-- "priorities not 32 bytes, or a byte not zero that must be"
abbrev pub BytesUnfit : Setup → Type 0
BytesUnfit p = (length p.priority ≡ 32 → ⊥) ⊎ ((i : ℕ) × (clear_from p ≤ i) × (0 < at p.priority i))

-- "Setup: 1 to 4 in that order."
abbrev pub setup_reasons : Setup → List Reason
setup_reasons p =
    reason 1 (PolicyUnknown p)
    ∷ reason 2 ((p.count ≡ 0) ⊎ (32 < p.count))
    ∷ reason 3 (SliceUnfit p)
    ∷ reason 4 (BytesUnfit p)
    ∷ []

-- "Table: 1 to 4, then 20, 21, 22": by the columns' lengths and that of the result column
abbrev pub table_reasons : Setup → ℕ → ℕ → ℕ → ℕ → List Reason
table_reasons p times tasks amounts room =
    setup_reasons p
    ++ (reason 20 ((tasks ≡ times → ⊥) ⊎ (amounts ≡ times → ⊥))
    ∷ reason 21 (most_rows < times)
    ∷ reason 22 (room < times)
    ∷ [])

-- "Advance: 10, 11."
abbrev pub advance_reasons : State → ℕ → List Reason
advance_reasons s t =
    reason 10 (last_time < t)
    ∷ reason 11 (t < s.clock)
    ∷ []

-- "Request: 10, 11, 12, 13, 14."
abbrev pub request_reasons : State → ℕ → ℕ → ℕ → List Reason
request_reasons s t k a =
    reason 10 (last_time < t)
    ∷ reason 11 (t < s.clock)
    ∷ reason 12 (s.setup.count ≤ k)
    ∷ reason 13 ((a ≡ 0) ⊎ (most_amount < a))
    ∷ reason 14 (0 < at (moved s t).owed k)
    ∷ []

-- "Drain .. is never refused."
unfoldable pub reasons : State → Call → List Reason
reasons s (request t k a) = request_reasons s t k a
reasons s (advance t) = advance_reasons s t
reasons s drain = []
