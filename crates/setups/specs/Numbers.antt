-- What each case of an answer tells: "a definition gives this paper's number and values for each of its cases".
-- Assumes nothing.
use Rattle.std.specs.Prelude.{ℕ, ◌≡◌, false, ◌||◌, Result, MatchResult, eqb}
use Rattle.rule.specs.Refusal.{number_by}
use Rattle.setups.specs.declared.SetupRefusal.{SetupRefusal}
use Rattle.setups.specs.declared.SetupRefusal.TheVariants.{WrongPolicy, WrongCount, WrongSlice, WrongPriorities}
use Rattle.setups.specs.declared.Policy.{Policy}
use Rattle.setups.specs.declared.Policy.TheVariants.{Priority, RoundRobin}

-- "1: policy not 1 or 2", "2: task count not 1 to 32", "3: slice not as the policy asks", "4: priorities not 32 bytes,
-- or a byte not zero that must be"
abbrev pub refusal_number : SetupRefusal → ℕ
refusal_number WrongPolicy = 1
refusal_number WrongCount = 2
refusal_number WrongSlice = 3
refusal_number WrongPriorities = 4

-- a setup's number: 0 where it is accepted
abbrev pub setup_number : {A : Type 0} → Result A SetupRefusal → ℕ
setup_number r = number_by refusal_number r

-- "1 priority, 2 round robin"
abbrev pub policy_number : Policy → ℕ
policy_number Priority = 1
policy_number RoundRobin = 2

-- the policy with a number, or that there is none
abbrev pub KnownPolicy : ℕ → Result Policy SetupRefusal → Type 0
KnownPolicy n r = MatchResult r (λ policy. policy_number policy ≡ n) (λ e. (e ≡ WrongPolicy) × ((eqb n 1 || eqb n 2) ≡ false))
