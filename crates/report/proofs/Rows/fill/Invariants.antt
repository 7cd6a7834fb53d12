-- `report::Rows::fill` meets its contract. The invariant: the first i rows stand in the columns. Assumes nothing.
use Rattle.std.proofs.Common.{◌≤◌}
use Rattle.report.specs.Filled.{Filled}
use Rattle.report.proofs.Rows.fill.Given as goal

abbrev pub invariant-loop-i : goal.invariant-loop-i
invariant-loop-i l =
    record { few : l.count ≤ 1_024; filled : Filled l.log.bytes.now l.i l.self.times l.self.tasks l.self.amounts }
