-- Document 01, "The printing program": what is printed, as bytes. A number is printed as `decimal` of cells/specs.
-- Assumes nothing.
use Rattle.std.specs.Prelude.{ℕ, zero, suc, ◌+◌, Bool, cond, ◌&&◌, List, [], ◌∷◌, ◌++◌, length, eqb, leb}
use Prim.Native.Char.{code}
use Prim.Native.String.{String, [] as none, ◌∷◌ as ◌then◌}
use Rattle.lists.specs.Lists.{at}
use Rattle.cells.specs.Decimal.{decimal}

-- ---- words and lines

-- the bytes of a text written out
abbrev pub bytes : String → List ℕ
bytes none = []
bytes (c then s) = code c ∷ bytes s

-- words with one blank between two, and a newline
abbrev pub line : List (List ℕ) → List ℕ
line [] = bytes "\n"
line (w ∷ []) = w ++ bytes "\n"
line (w ∷ v ∷ ws) = w ++ bytes " " ++ line (v ∷ ws)

-- ---- "a header, one line a row (row from 1, task, time asked, amount, time done), and the end"

abbrev pub header : List ℕ
header = line (bytes "row" ∷ bytes "task" ∷ bytes "asked" ∷ bytes "amount" ∷ bytes "done" ∷ [])

unfoldable pub row_line : ℕ → ℕ → ℕ → ℕ → ℕ → List ℕ
row_line row task asked amount done =
    line (decimal row ∷ decimal task ∷ decimal asked ∷ decimal amount ∷ decimal done ∷ [])

unfoldable pub end_line : ℕ → List ℕ
end_line end = line (bytes "end" ∷ decimal end ∷ [])

-- the first n rows of four columns
unfoldable pub row_lines : List ℕ → List ℕ → List ℕ → List ℕ → ℕ → List ℕ
row_lines tasks asked amounts done zero = []
row_lines tasks asked amounts done (suc n) =
    row_lines tasks asked amounts done n ++ row_line (n + 1) (at tasks n) (at asked n) (at amounts n) (at done n)

unfoldable pub table_text : List ℕ → List ℕ → List ℕ → List ℕ → ℕ → List ℕ
table_text tasks asked amounts done end = header ++ row_lines tasks asked amounts done (length tasks) ++ end_line end

-- "at most 1,024 rows"
abbrev pub most_lines : ℕ
most_lines = 1_024

-- "equally long", and not too many, by the columns' lengths
unfoldable pub columns_fit_lem : ℕ → ℕ → ℕ → ℕ → Bool
columns_fit_lem tasks asked amounts done = eqb asked tasks && eqb amounts tasks && eqb done tasks && leb tasks most_lines

-- what is put of any columns: no text of those that do not fit
unfoldable pub columns_text : List ℕ → List ℕ → List ℕ → List ℕ → ℕ → List ℕ
columns_text tasks asked amounts done end =
    cond (columns_fit_lem (length tasks) (length asked) (length amounts) (length done))
    (table_text tasks asked amounts done end) []

-- ---- "the one line `refused N at P`"

unfoldable pub refused_line : ℕ → ℕ → List ℕ
refused_line n p = line (bytes "refused" ∷ decimal n ∷ bytes "at" ∷ decimal p ∷ [])
