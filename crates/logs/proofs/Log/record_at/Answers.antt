-- `logs::Log::record_at` meets its contract: row i stands in block 1 + i / 41. Assumes nothing.
use Rattle.std.proofs.Common.{arith, ap, ◌∙◌, Some}
use Rattle.logs.proofs.Rows.{row_in, found_row, found_none}
use Rattle.logs.proofs.Log.record_at.Goals as goal

pub returns-then-record_count-i : goal.returns-then-record_count-i
returns-then-record_count-i c = found_none _ _ (omega arith)

pub returns : goal.returns
returns c = ap Some (c.record_in.ensures ∙ row_in _ c.args.self.reads _ (omega arith)) ∙ found_row _ _ (omega arith)
