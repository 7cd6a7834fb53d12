-- Texts written out: document 01's case A in full, a table without rows, columns that do not fit, refusals, and
-- numbers at the edges of a digit. proofs/Computed.antt computes them all. Assumes nothing.
use Rattle.std.specs.Prelude.{ℕ, cond, List, [], ◌∷◌}
use Prim.Native.String.{String}
use Rattle.cells.specs.Decimal.{decimal}
use Rattle.text.specs.Text.{bytes, columns_fit_lem, columns_text, refused_line}

pub record Case : Type 0 where
  pub found : List ℕ
  pub said : List ℕ

abbrev prints : List ℕ → List ℕ → Case
prints found said = record { found = found; said = said }

-- columns of these lengths are put, or not
abbrev fit : ℕ → ℕ → ℕ → ℕ → String → Case
fit tasks asked amounts done answer =
    prints (cond (columns_fit_lem tasks asked amounts done) (bytes "yes") (bytes "no")) (bytes answer)

abbrev pub cases : List Case
cases =
    prints (columns_text (0 ∷ 1 ∷ []) (0 ∷ 2 ∷ []) (5 ∷ 2 ∷ []) (7 ∷ 5 ∷ []) 7)
    (bytes "row task asked amount done\n1 0 0 5 7\n2 1 2 2 5\nend 7\n")
    ∷ prints (columns_text [] [] [] [] 0) (bytes "row task asked amount done\nend 0\n")
    ∷ prints (columns_text (3 ∷ 1 ∷ []) (10 ∷ 20 ∷ []) (5 ∷ 6 ∷ []) (15 ∷ 26 ∷ []) 27)
    (bytes "row task asked amount done\n1 3 10 5 15\n2 1 20 6 26\nend 27\n")
    ∷ prints (columns_text [] (0 ∷ []) (5 ∷ []) (5 ∷ []) 5) [] ∷ prints (columns_text (0 ∷ []) [] (5 ∷ []) (5 ∷ []) 5) []
    ∷ prints (columns_text (0 ∷ []) (0 ∷ []) [] (5 ∷ []) 5) [] ∷ prints (columns_text (0 ∷ []) (0 ∷ []) (5 ∷ []) [] 5) []
    ∷ fit 2 1 2 2 "no" ∷ fit 2 3 2 2 "no" ∷ fit 2 2 1 2 "no" ∷ fit 2 2 3 2 "no" ∷ fit 2 2 2 1 "no" ∷ fit 2 2 2 3 "no"
    ∷ fit 1_024 1_024 1_024 1_024 "yes" ∷ fit 1_025 1_025 1_025 1_025 "no"
    ∷ prints (refused_line 14 2) (bytes "refused 14 at 2\n")
    ∷ prints (refused_line 30 0) (bytes "refused 30 at 0\n")
    ∷ prints (decimal 0) (bytes "0") ∷ prints (decimal 9) (bytes "9") ∷ prints (decimal 10) (bytes "10")
    ∷ prints (decimal 1_024) (bytes "1024") ∷ prints (decimal 4_294_967_295) (bytes "4294967295")
    ∷ []
