-- `report::Rows::fill` meets its contract: row after row. Assumes nothing.
use borrow.Author.Rules.{rules}
use native.Mathlib.Omega.{arith}
use Rattle.logs.proofs.Rows.{column_most}
use Rattle.report.proofs.Filling.{filled_more}
use Rattle.report.proofs.Rows.fill.Goals as goal

pub loop-i-init : goal.loop-i-init
loop-i-init c =
    record {
      few = omega (arith, column_most 0 _ c.args.log.reads, c.record_count-count.ensures);
      filled = search rules;
    }

pub loop-i-preserved : goal.loop-i-preserved
loop-i-preserved c =
    record {
      few = search rules;
      filled =
          filled_more _ c.args.log.reads c.row_at-row.result c.row_at-row.ensures (search rules)
          c.loop-i.invariant.filled;
    }
