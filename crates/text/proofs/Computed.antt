-- The texts written out are what the definitions give: antt computes them all. Assumes nothing.
use mathlib.Core.Path.{◌≡◌, refl}
use mathlib.Core.List.{map}
use Rattle.cells.specs.Decimal.{digits}
use Rattle.text.specs.Text.{row_line, row_lines, end_line, table_text, columns_fit_lem, columns_text, refused_line}
use Rattle.text.specs.Cases.{Case, cases}

pub cases_hold : map (λ (c : Case). c.found) cases ≡ map (λ (c : Case). c.said) cases
unfolding digits row_line row_lines end_line table_text columns_fit_lem columns_text refused_line
cases_hold = refl
