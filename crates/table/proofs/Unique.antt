-- The promise of `table` leaves one outcome: the answer and every entry of the result column. Assumes nothing.
use Prim.Native.Nat.{ℕ}
use mathlib.Core.Path.{sym, ◌∙◌}
use mathlib.Core.List.{List}
use Rattle.std.specs.Prelude.{Result}
use Rattle.rule.specs.Table.{Outcome}
use Rattle.rule.specs.View.{Determined}
use Rattle.table.specs.Answers.{Answers}
use Rattle.table.specs.declared.TableRefusal.{TableRefusal}
use Rattle.table.proofs.Numbers.{table_told_determined}

pub table_determined : (o : Outcome) (before : List ℕ)
    → Determined (λ (x : Result ℕ TableRefusal × List ℕ). Answers o before x.0 x.1)
table_determined o before x y a b =
    λ i. (table_told_determined _ x.0 y.0 a.answer b.answer i, (a.column ∙ sym b.column) i)
