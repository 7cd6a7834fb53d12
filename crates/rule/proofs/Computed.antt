-- The runs worked by hand and the limits come out as they are said to: antt computes them all. Assumes nothing.
use mathlib.Core.Path.{◌≡◌, refl}
use mathlib.Core.List.{List, map}
use Rattle.lists.specs.Lists.{total, without, zeros}
use Rattle.rule.specs.Setups.{slice_fits_lem, bytes_fit_lem, setup_refusal_lem}
use Rattle.rule.specs.Tick.{before, best, chosen, overdue, head_back, turn, used_more_lem, give, rest, serve, tick_on}
use Rattle.rule.specs.Tick.{tick, ticks}
use Rattle.rule.specs.Calls.{moved, drained, opened, effect, request_refusal, advance_refusal, refusal, call, calls}
use Rattle.rule.specs.Readings.{done_at, done_within, next_done_lem}
use Rattle.rule.specs.Table.{completion, completions, unless_refused, outcome_from, rows, column_refusal_lem}
use Rattle.rule.specs.Table.{table_refusal, table_from, table, written}
use Rattle.rule.specs.Cases.{Case, starred, ours}
use Rattle.rule.specs.Limits.{limits}
use Rattle.rule.specs.Worked.{worked}

abbrev AsSaid : List Case → Type 0
AsSaid cases = map (λ (c : Case). c.found) cases ≡ map (λ (c : Case). c.said) cases

pub starred_hold : AsSaid starred
unfolding total without zeros slice_fits_lem bytes_fit_lem setup_refusal_lem before best chosen overdue head_back turn used_more_lem
    give rest serve tick_on tick ticks moved drained opened effect request_refusal advance_refusal refusal call calls
    completion completions unless_refused outcome_from table_from
starred_hold = refl

pub ours_hold : AsSaid ours
unfolding total without zeros slice_fits_lem bytes_fit_lem setup_refusal_lem before best chosen overdue head_back turn used_more_lem
    give rest serve tick_on tick ticks moved drained opened effect request_refusal advance_refusal refusal call calls
    completion completions unless_refused outcome_from table_from
ours_hold = refl

pub limits_hold : AsSaid limits
unfolding total without zeros slice_fits_lem bytes_fit_lem setup_refusal_lem before best chosen overdue head_back turn used_more_lem
    give rest serve tick_on tick ticks moved drained opened effect request_refusal advance_refusal refusal call calls
limits_hold = refl

pub worked_hold : AsSaid worked
unfolding total without zeros slice_fits_lem bytes_fit_lem setup_refusal_lem before best chosen overdue head_back turn used_more_lem
    give rest serve tick_on tick ticks moved drained opened effect request_refusal advance_refusal refusal call calls
    done_at done_within next_done_lem completion completions unless_refused outcome_from rows column_refusal_lem table_refusal
    table_from table written
worked_hold = refl
