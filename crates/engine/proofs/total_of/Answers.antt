-- The library's sum is the total (Totals).
use Rattle.std.proofs.Common.{◌<◌, ◌≡◌, ◌∙◌, rules, ◌^◌}
use Rattle.std.specs.List.{sum}
use Rattle.engine.proofs.Totals.{sum_total}
use Rattle.engine.proofs.total_of.Goals as goal

pub sum-requires-clause-fits : goal.sum-requires-clause-fits
sum-requires-clause-fits c =
    let fits : sum c.args.owed.now < 2 ^ 32 = rw sum_total c.requires in
    search rules

pub returns : goal.returns
returns c =
    let same : c.sum.result ≡ sum c.args.owed.now = search rules in
    same ∙ sum_total c.args.owed.now
