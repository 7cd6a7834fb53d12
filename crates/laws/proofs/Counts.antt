-- Demand 3's count on runs worked by hand, computed from their requests alone. Assumes nothing.
use Prim.Native.Nat.{ℕ}
use mathlib.Core.Path.{◌≡◌, refl}
use mathlib.Core.List.{List, [], ◌∷◌, map}
use Rattle.lists.specs.Lists.{without}
use Rattle.rule.specs.State.{fresh}
use Rattle.rule.specs.Tick.{chosen, overdue, head_back, turn, used_more_lem, give, rest, serve, tick_on, tick, ticks}
use Rattle.rule.specs.Calls.{moved, opened, request, effect, request_refusal, refusal, call}
use Rattle.rule.specs.Cases.{robin}
use Rattle.laws.specs.Backlog.{Ask, amount_of, sum_by, sum_of, backlog, empty_ticks, asks, accepted}

abbrev ask : ℕ → ℕ → ℕ → Ask
ask t k a = record { time = t; task = k; amount = a }

-- A: (0,0,5) (2,1,2), done 7 and 5; and F: (0,0,1) (10,0,2), done 1 and 12, "9 ticks idle"
abbrev run_a : List Ask
run_a = ask 0 0 5 ∷ ask 2 1 2 ∷ []

abbrev run_f : List Ask
run_f = ask 0 0 1 ∷ ask 10 0 2 ∷ []

backlog_a : map (backlog run_a) (0 ∷ 1 ∷ 2 ∷ 3 ∷ 6 ∷ 7 ∷ 8 ∷ []) ≡ (5 ∷ 4 ∷ 5 ∷ 4 ∷ 1 ∷ 0 ∷ 0 ∷ [])
unfolding sum_by backlog
backlog_a = refl

backlog_f : map (backlog run_f) (0 ∷ 1 ∷ 9 ∷ 10 ∷ 11 ∷ 12 ∷ []) ≡ (1 ∷ 0 ∷ 0 ∷ 2 ∷ 1 ∷ 0 ∷ [])
unfolding sum_by backlog
backlog_f = refl

empty_ticks_f : map (empty_ticks run_f) (0 ∷ 1 ∷ 2 ∷ 10 ∷ 12 ∷ 13 ∷ []) ≡ (0 ∷ 0 ∷ 1 ∷ 9 ∷ 9 ∷ 10 ∷ [])
unfolding sum_by backlog empty_ticks
empty_ticks_f = refl

sum_of_a : map (sum_of amount_of run_a) (0 ∷ 1 ∷ 2 ∷ []) ≡ (5 ∷ 2 ∷ 0 ∷ [])
unfolding sum_by
sum_of_a = refl

-- I: "row 2 refused 14", so that only row 1 counts
accepted_i : accepted (fresh (robin 1 7)) (request 0 0 2 ∷ request 1 0 1 ∷ []) ≡ ask 0 0 2 ∷ []
unfolding without chosen overdue head_back turn used_more_lem give rest serve tick_on tick ticks moved opened effect
    request_refusal refusal call asks accepted
accepted_i = refl
