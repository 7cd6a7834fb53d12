-- `logs::Log::record_count` meets its contract: the last block's records stand after full blocks. Assumes nothing.
use Rattle.std.proofs.Common.{sym, arith}
use Rattle.logs.proofs.Rows.{column_none, column_some}
use Rattle.logs.proofs.Log.record_count.Goals as goal

pub returns-then-blocks-lt2 : goal.returns-then-blocks-lt2
returns-then-blocks-lt2 c = sym (column_none _ c.args.self.reads 0 c.if-blocks-lt2.true)

pub returns : goal.returns
returns c = omega (arith, column_some _ c.args.self.reads 0 c.if-blocks-lt2.false)
