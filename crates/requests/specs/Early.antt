-- What judging a request before the clock moves promises. Assumes nothing.
use Rattle.std.specs.Prelude.{ℕ, not, [], ◌∷◌, ltb, leb}
use Rattle.lists.specs.Lists.{within}
use Rattle.rule.specs.Refusal.{refuse, first}
use Rattle.rule.specs.Calls.{last_time, most_amount}

-- "Request: 10, 11, 12, 13, 14.": the refusals that are judged before the clock moves
unfoldable pub early_refusal_lem : ℕ → ℕ → ℕ → ℕ → ℕ → ℕ
early_refusal_lem count clock t k a =
    first
    (refuse 10 (ltb last_time t)
    ∷ refuse 11 (ltb t clock)
    ∷ refuse 12 (leb count k)
    ∷ refuse 13 (not (within 1 most_amount a))
    ∷ [])
