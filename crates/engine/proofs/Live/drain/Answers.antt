-- A drain is a move by the ticks owed.
use Prim.Native.Nat.{ℕ, ◌+◌}
use mathlib.Core.Path.{ap, ◌∙◌}
use Rattle.rule.specs.Calls.{moved}
use Rattle.laws.proofs.Ticks.{moved_drained}
use Rattle.engine.specs.Live.{state}
use Rattle.engine.proofs.Live.drain.Goals as goal

pub returns : goal.returns
returns c =
    let s = state c.args.self.now in
    c.walk.ensures ∙ ap (λ (n : ℕ). moved s (s.clock + n)) c.total_of-left.ensures ∙ moved_drained s
