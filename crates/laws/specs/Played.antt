-- Runs and sequences of calls on them, from what is promised of each call alone; and what demand 1 says of one call.
-- Assumes nothing.
use Rattle.std.specs.Prelude.{ℕ, ◌≡◌, ◌↔◌, List, [], ◌∷◌}
use Rattle.rule.specs.Calls.{Call, effect}
use Rattle.rule.specs.View.{view, Promised}
use Rattle.rule.specs.declared.Run.{Run}
use Rattle.laws.specs.Reasons.{Judged, reasons}

-- The run r comes of the run s by these calls with these numbers, each as promised.
pub data Played : Run → List Call → List ℕ → Run → Type 0 where
  none : {s : Run} → Played s [] [] s
  then : {s q r : Run} {c : Call} {n : ℕ} {cs : List Call} {ns : List ℕ} → Promised s c n q → Played q cs ns r
      → Played s (c ∷ cs) (n ∷ ns) r

-- "Where several hold, only the first in these orders is given." "A refusal .. changes no run": a refused call leaves
-- the very run, and an accepted one has its effect.
pub record Judges (before : Run) (c : Call) (number : ℕ) (after : Run) : Type 0 where
  pub listed : (n : ℕ) → (number ≡ n) ↔ Judged (reasons (view before) c) n
  pub kept : (number ≡ 0 → ⊥) → after ≡ before
  pub acted : number ≡ 0 → view after ≡ effect (view before) c
