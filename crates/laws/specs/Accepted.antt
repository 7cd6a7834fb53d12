-- Document 01, "Refusal numbers", where none is given: what an accepted setup, request and advance has, a field for
-- each number. Assumes nothing.
use Rattle.std.specs.Prelude.{ℕ, ◌≤◌, ◌<◌, ◌≡◌, ◌⊎◌, cond, length}
use Rattle.lists.specs.Lists.{at}
use Rattle.rule.specs.Setups.{is_priority, most_slice}
use Rattle.rule.specs.State.{State}
use Rattle.rule.specs.Calls.{moved, last_time, most_amount}
use Rattle.rule.specs.declared.Setup.{Setup}

-- From this byte on the priority bytes must be 0: "the bytes past the count", or "all 32 bytes".
abbrev pub clear_from : Setup → ℕ
clear_from p = cond (is_priority p) p.count 0

-- "Setup: 1 to 4 in that order.": none of them holds.
pub record Taken (p : Setup) : Type 0 where
  pub policy : (p.policy ≡ 1) ⊎ (p.policy ≡ 2)
  pub some : 0 < p.count
  pub few : p.count ≤ 32
  pub unsliced : p.policy ≡ 1 → p.slice ≡ 0
  pub sliced : p.policy ≡ 2 → (0 < p.slice) × (p.slice ≤ most_slice)
  pub bytes : length p.priority ≡ 32
  pub clear : (i : ℕ) → clear_from p ≤ i → at p.priority i ≡ 0

-- "Advance: 10, 11.": none of them holds.
pub record Advanced (s : State) (t : ℕ) : Type 0 where
  pub time : t ≤ last_time
  pub later : s.clock ≤ t

-- "Request: 10, 11, 12, 13, 14.": none of them holds.
pub record Requested (s : State) (t k a : ℕ) : Type 0 where
  pub time : t ≤ last_time
  pub later : s.clock ≤ t
  pub task : k < s.setup.count
  pub some : 0 < a
  pub few : a ≤ most_amount
  pub closed : at (moved s t).owed k ≡ 0
