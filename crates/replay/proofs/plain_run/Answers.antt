-- `replay::plain_run` meets its contract: one tidy run stands for a fresh state. Assumes nothing.
use Rattle.std.proofs.Common.{subst}
use Rattle.rule.specs.State.{fresh}
use Rattle.rule.specs.View.{Shows}
use Rattle.rule.specs.declared.Setup.{Setup}
use Rattle.replay.proofs.Calling.{shows_plain}
use Rattle.replay.proofs.plain_run.Goals as goal

pub returns : goal.returns
returns c =
    shows_plain _ (subst (λ (p : Setup). Shows c.fresh_run.result (fresh p)) c.plain.ensures c.fresh_run.ensures)
