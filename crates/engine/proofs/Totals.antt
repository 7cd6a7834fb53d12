-- The library's sum of a list is its total. Assumes nothing.
use Prim.Native.Nat.{ℕ, ◌+◌}
use mathlib.Core.Path.{◌≡◌, refl, ap, ◌∙◌}
use mathlib.Core.List.{List, [], ◌∷◌}
use Rattle.std.specs.List.{sum}
use Rattle.std.proofs.lemmas.List.Sums.{sum_by-cons}
use Rattle.lists.specs.Lists.{total}

pub sum_total : (l : List ℕ) → sum l ≡ total l
unfolding total
sum_total [] = refl
sum_total (x ∷ l) = sum_by-cons (λ (k : ℕ). k) x l ∙ ap (λ (n : ℕ). x + n) (sum_total l)
