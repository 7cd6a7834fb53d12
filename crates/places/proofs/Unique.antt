-- No two outcomes satisfy the promise of `start_of`. Assumes nothing.
use Prim.Native.Nat.{ℕ}
use mathlib.Core.Path.{sym, ◌∙◌}
use mathlib.Core.List.{List}
use Rattle.rule.specs.View.{Determined}
use Rattle.judging.specs.Log.{judged}
use Rattle.judging.proofs.Unique.{told_determined}
use Rattle.places.specs.Places.{Begins}

pub start_determined : (log : List ℕ) → Determined (Begins log)
start_determined log x y p q =
    λ i. record {
      verdict = told_determined (judged log) x.verdict y.verdict p.verdict q.verdict i;
      block = (p.block ∙ sym q.block) i;
    }
