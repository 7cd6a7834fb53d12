-- Document 01, "Setting up a run", and refusals 1 to 4. Assumes nothing.
use Rattle.std.specs.Prelude.{ℕ, Bool, cond, not, ◌&&◌, ◌||◌, List, [], ◌∷◌, length, drop, replicate, eqb}
use Rattle.lists.specs.Lists.{within, zeros}
use Rattle.rule.specs.Refusal.{refuse, first}
use Rattle.rule.specs.declared.Setup.{Setup}

-- "A setup is a policy (1 priority, 2 round robin), a task count, a slice length and 32 priority bytes."
abbrev pub asked : ℕ → ℕ → ℕ → List ℕ → Setup
asked policy count slice priority = record { policy = policy; count = count; slice = slice; priority = priority }

-- "1 priority, 2 round robin"
abbrev pub is_priority : Setup → Bool
is_priority p = eqb p.policy 1

abbrev pub is_round_robin : Setup → Bool
is_round_robin p = eqb p.policy 2

abbrev pub most_slice : ℕ
most_slice = 65_535

-- "Priority: the slice is 0 .. Round robin: the slice is 1 to 65,535"
unfoldable pub slice_fits_lem : ℕ → ℕ → Bool
slice_fits_lem policy slice = cond (eqb policy 1) (eqb slice 0) (within 1 most_slice slice)

-- "Priority: .. the bytes past the count are 0. Round robin: .. all 32 bytes are 0."
unfoldable pub bytes_fit_lem : ℕ → ℕ → List ℕ → Bool
bytes_fit_lem policy count bytes = eqb (length bytes) 32 && zeros (drop (cond (eqb policy 1) count 0) bytes)

-- "Setup: 1 to 4 in that order."
unfoldable pub setup_refusal_lem : Setup → ℕ
setup_refusal_lem p =
    first
    (refuse 1 (not (is_priority p || is_round_robin p))
    ∷ refuse 2 (not (within 1 32 p.count))
    ∷ refuse 3 (not (slice_fits_lem p.policy p.slice))
    ∷ refuse 4 (not (bytes_fit_lem p.policy p.count p.priority))
    ∷ [])

-- The setup of the run that a refused setup gives: priority, one task (docs/DECISIONS.md, "A refused setup gives one
-- fixed run").
abbrev pub plain : Setup
plain = asked 1 1 0 (replicate 32 0)

-- The setup that a run is made of: the one asked for, or `plain` where that is refused.
abbrev pub or_plain : Setup → Setup
or_plain p = cond (eqb (setup_refusal_lem p) 0) p plain
