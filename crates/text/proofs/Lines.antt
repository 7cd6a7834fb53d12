-- The equations of `row_lines`, and lines as they are put, cell by cell. Assumes nothing.
use Prim.Native.Nat.{ℕ, ◌+◌}
use mathlib.Core.Path.{◌≡◌, refl, ap}
use mathlib.Core.List.{List, [], ◌∷◌, ◌++◌, append_assoc}
use native.Mathlib.Numerals.{add-one}
use lib.ListN.{length}
use Rattle.lists.specs.Lists.{at}
use Rattle.cells.specs.Decimal.{decimal}
use Rattle.text.specs.Text.{bytes, header, row_line, row_lines, end_line, table_text, refused_line}

pub row_lines_none : (t a m d : List ℕ) → row_lines t a m d 0 ≡ []
unfolding row_lines
row_lines_none t a m d = refl

pub row_lines_more : (t a m d : List ℕ) (k : ℕ)
    → row_lines t a m d (k + 1) ≡ row_lines t a m d k ++ row_line (k + 1) (at t k) (at a k) (at m k) (at d k)
unfolding row_lines
row_lines_more t a m d k = ap (λ n. row_lines t a m d n) (add-one k)

-- ---- lines as they are put, cell by cell

-- a number, and a byte after it
abbrev pub cell : ℕ → ℕ → List ℕ
cell n b = decimal n ++ b ∷ []

pub row_line_cells : (row task asked amount done : ℕ)
    → (((cell row 32 ++ cell task 32) ++ cell asked 32) ++ cell amount 32) ++ cell done 10
    ≡ row_line row task asked amount done
unfolding row_line
row_line_cells row task asked amount done = simp append_assoc

pub refused_line_cells : (n p : ℕ)
    → (bytes "refused " ++ cell n 32) ++ (bytes "at " ++ cell p 10) ≡ refused_line n p
unfolding refused_line
refused_line_cells n p = simp append_assoc

pub table_text_cells : (t a m d : List ℕ) (end : ℕ)
    → (header ++ row_lines t a m d (length t)) ++ (bytes "end " ++ cell end 10) ≡ table_text t a m d end
unfolding table_text end_line
table_text_cells t a m d end = append_assoc header (row_lines t a m d (length t)) (end_line end)
