-- Of the head and the task that joined, the one that goes first (Heads).
use mathlib.Core.Path.{sym, ◌∙◌}
use mathlib.Core.Bool.{true, false}
use Rattle.line.proofs.Heads.{heads_joined}
use Rattle.line.proofs.head_with.Goals as goal

pub returns-then-overtakes : goal.returns-then-overtakes
returns-then-overtakes c =
    let r = c.requires in
    heads_joined (sym c.is_priority.ensures ∙ c.if-not-is_priority.false) c.told-queue r.n_bound r.heads true
    (sym c.if-overtakes.true ∙ c.overtakes.ensures)

pub returns-else-overtakes : goal.returns-else-overtakes
returns-else-overtakes c =
    let r = c.requires in
    heads_joined (sym c.is_priority.ensures ∙ c.if-not-is_priority.false) c.told-queue r.n_bound r.heads false
    (sym c.if-overtakes.false ∙ c.overtakes.ensures)
