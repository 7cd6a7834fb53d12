-- `table::run_with` meets its contract: a row was refused, or the column is written (Answering).
use Rattle.table.proofs.Answering.{answer_refused, answer_finished}
use Rattle.table.proofs.run_with.Goals as goal

pub returns-in_err-ran : goal.returns-in_err-ran
returns-in_err-ran g c =
    answer_refused _ _ _ _ _ c.requires.tabled _ c.in_err-ran.ensures.stopped c.from_residual.ensures.1

pub returns : goal.returns
returns g c =
    answer_finished _ _ _ _ _ c.requires.tabled c.in_ok-ran.ran c.in_ok-ran.ensures.taken c.put_result.ensures
