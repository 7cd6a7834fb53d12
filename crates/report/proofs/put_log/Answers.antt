-- `report::put_log` meets its contract: the columns that were filled are the log's. Assumes nothing.
use Rattle.cells.proofs.Writing.{wrote_same_upto}
use Rattle.report.proofs.Logs.{log_tabled, log_text}
use Rattle.report.proofs.put_log.Goals as goal

pub put_run-requires : goal.put_run-requires
put_run-requires c =
    let rows = c.fill.ensures in
    let columns = c.columns.ensures in
    rw (columns.times, columns.tasks, columns.amounts)
    (log_tabled c.args.log.bytes.now c.args.log.reads rows.filled rows.all c.setup.ensures)

pub returns : goal.returns
returns c =
    let rows = c.fill.ensures in
    let columns = c.columns.ensures in
    wrote_same_upto
    (log_text c.args.log.bytes.now c.args.log.reads rows.filled rows.all c.setup.ensures)
    (rw (columns.times, columns.tasks, columns.amounts) at c.put_run.ensures)
