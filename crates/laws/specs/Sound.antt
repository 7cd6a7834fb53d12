-- The invariant of the states that setups and calls make (`made_sound`), said once over the policy. Assumes nothing.
use Rattle.std.specs.Prelude.{ℕ, ◌+◌, ◌≤◌, ◌<◌, min, ◌≡◌, false, length}
use Rattle.lists.specs.Lists.{at, total, times}
use Rattle.rule.specs.Setups.{is_priority}
use Rattle.rule.specs.State.{State}
use Rattle.rule.specs.Calls.{most_amount}
use Rattle.rule.specs.declared.Setup.{Setup}

-- round robin has a slice, of which at most all is used
pub record Sliced (p : Setup) (used : ℕ) : Type 0 where
  pub some : 0 < p.slice
  pub inside : used ≤ p.slice

-- n more ticks fit into the slice
abbrev pub Room : Setup → ℕ → ℕ → Type 0
Room p used n = is_priority p ≡ false → used + n ≤ p.slice

pub record Sound (s : State) : Type 0 where
  pub few : s.setup.count ≤ 32
  pub owed32 : length s.owed ≡ 32
  pub given32 : length s.given ≡ 32
  pub done32 : length s.done ≡ 32
  pub sliced : is_priority s.setup ≡ false → Sliced s.setup s.used
  -- a task stands in the queue once where it is owed ticks, and else not
  pub queued : (k : ℕ) → times k s.queue ≡ min 1 (at s.owed k)
  -- only counted tasks are owed ticks, each at most one request's
  pub counted : (k : ℕ) → s.setup.count ≤ k → at s.owed k ≡ 0
  pub limit : (k : ℕ) → at s.owed k ≤ most_amount
  -- each tick was given or idle
  pub spent : total s.given + s.idle ≡ s.clock
  pub past : (k : ℕ) → at s.done k ≤ s.clock
