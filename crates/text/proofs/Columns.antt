-- Laws of `columns_text`: columns that fit by their lengths; the text of columns that fit, and of others.
-- Assumes nothing.
use Prim.Native.Nat.{ℕ, ◌≤◌}
use mathlib.Core.Path.{◌≡◌}
use mathlib.Core.Bool.{true, false}
use mathlib.Core.List.{List, []}
use native.Mathlib.Omega.{arith}
use lib.ListN.{length}
use Rattle.std.proofs.lemmas.Bool.Decides.{nat_tests}
use Rattle.text.specs.Text.{table_text, columns_fit_lem, columns_text, most_lines}
use Rattle.requests.specs.declared.Columns.{Columns}
use Rattle.text.specs.Inner.{Fit}

pub columns_fit_lem_lem : (c : Columns) (done : List ℕ)
    → columns_fit_lem (length c.tasks.now) (length c.times.now) (length c.amounts.now) (length done) ≡ true → Fit c done
unfolding columns_fit_lem
columns_fit_lem_lem c done e =
    record {
      few = search (arith, nat_tests);
      times_too = search (arith, nat_tests);
      amounts_too = search (arith, nat_tests);
      done_too = search (arith, nat_tests);
    }

module _ (t a m d : List ℕ) (end : ℕ) where
  pub columns_text_fit : length t ≤ most_lines → length a ≡ length t → length m ≡ length t → length d ≡ length t
      → columns_text t a m d end ≡ table_text t a m d end
  unfolding columns_text columns_fit_lem
  columns_text_fit few asked amounts done = grind (arith, nat_tests)

  pub columns_text_other : columns_fit_lem (length t) (length a) (length m) (length d) ≡ false
      → columns_text t a m d end ≡ []
  unfolding columns_text
  columns_text_other e = rw e
