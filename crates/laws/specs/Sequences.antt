-- Words for sequences of calls. Assumes nothing.
use Rattle.std.specs.Prelude.{ℕ, ◌+◌, ◌≡◌, List, [], ◌∷◌}
use Rattle.lists.specs.Lists.{total}
use Rattle.rule.specs.State.{State}
use Rattle.rule.specs.Calls.{Call, request, advance, drain, refusal, call}

-- no call of the sequence is refused
unfoldable pub AllAccepted : State → List Call → Type 0
AllAccepted s [] = Unit {0}
AllAccepted s (c ∷ cs) = (refusal s c ≡ 0) × AllAccepted (call s c) cs

-- the time of a call, and for a drain the instant that it moves to
unfoldable pub reach : State → Call → ℕ
reach s (request t k a) = t
reach s (advance t) = t
reach s drain = s.clock + total s.owed
