-- A sequence of calls to which advances are added. Assumes nothing.
use Rattle.std.specs.Prelude.{ℕ, ◌≤◌, ◌≡◌, List, [], ◌∷◌}
use Rattle.rule.specs.State.{State}
use Rattle.rule.specs.Calls.{Call, advance, refusal, call}
use Rattle.laws.specs.Sequences.{reach}

pub data Entry : Type 0 where
  said : Call → Entry  -- a call of the sequence
  added : ℕ → Entry  -- an advance that is added

-- the sequence without what is added
unfoldable pub bare : List Entry → List Call
bare [] = []
bare (said c ∷ es) = c ∷ bare es
bare (added u ∷ es) = bare es

-- ---- what is known after each call: its refusal, and the state, of which every reading is a function

unfoldable pub answers : State → List Call → List (ℕ × State)
answers s [] = []
answers s (c ∷ cs) = (refusal s c, call s c) ∷ answers (call s c) cs

-- the same of the calls of the sequence, where the added advances are made too
unfoldable pub heard : State → List Entry → List (ℕ × State)
heard s [] = []
heard s (said c ∷ es) = (refusal s c, call s c) ∷ heard (call s c) es
heard s (added u ∷ es) = heard (call s (advance u)) es

-- ---- which advances may be added: those that are accepted, and not later than the call that they stand before

unfoldable pub InTime : State → ℕ → List Entry → Type 0
InTime s u [] = ⊥
InTime s u (said c ∷ es) = u ≤ reach s c
InTime s u (added v ∷ es) = InTime s u es

unfoldable pub Addable : State → List Entry → Type 0
Addable s [] = Unit {0}
Addable s (said c ∷ es) = Addable (call s c) es
Addable s (added u ∷ es) = (refusal s (advance u) ≡ 0) × InTime s u es × Addable (call s (advance u)) es
