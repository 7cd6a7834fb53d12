-- Laws of the rows that columns hold. Assumes nothing.
use Prim.Native.Nat.{ℕ, zero, suc, ◌<◌}
use native.Mathlib.Omega.{arith}
use mathlib.Core.Path.{◌≡◌, refl, ap}
use mathlib.Core.List.{List, [], ◌∷◌}
use lib.ListN.{length, get_or}
use Rattle.lists.specs.Lists.{at}
use Rattle.rule.specs.Calls.{Call, request}
use Rattle.rule.specs.Table.{rows}

pub length_rows : (ts ks ms : List ℕ) → length ks ≡ length ts → length ms ≡ length ts
    → length (rows ts ks ms) ≡ length ts
unfolding rows
length_rows [] ks ms e f = refl
length_rows (t ∷ ts) [] ms e f = absurd (omega arith)
length_rows (t ∷ ts) (k ∷ ks) [] e f = absurd (omega arith)
length_rows (t ∷ ts) (k ∷ ks) (m ∷ ms) e f = ap suc (length_rows ts ks ms (omega arith) (omega arith))

pub at_rows : (ts ks ms : List ℕ) (i : ℕ) (d : Call) → i < length (rows ts ks ms)
    → get_or (rows ts ks ms) i d ≡ request (at ts i) (at ks i) (at ms i)
unfolding rows
at_rows [] ks ms i d h = absurd (omega arith)
at_rows (t ∷ ts) [] ms i d h = absurd (omega arith)
at_rows (t ∷ ts) (k ∷ ks) [] i d h = absurd (omega arith)
at_rows (t ∷ ts) (k ∷ ks) (m ∷ ms) zero d h = refl
at_rows (t ∷ ts) (k ∷ ks) (m ∷ ms) (suc i) d h = at_rows ts ks ms i d (omega arith)
