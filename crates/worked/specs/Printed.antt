-- Document 01, "The printing program": what is printed for logs worked by hand, from their bytes. Assumes nothing.
use Rattle.std.specs.Prelude.{ℕ, List, [], ◌∷◌, ◌++◌}
use Prim.Native.String.{String}
use Rattle.text.specs.Text as text
use Rattle.report.specs.Report.{report_text}
use Rattle.worked.specs.Made.{bytes, Case, made, head, case_a, wrong}

abbrev prints : List ℕ → String → Case
prints log lines = record { found = bytes (report_text log); said = bytes (text.bytes lines) }

abbrev pub reports : List Case
reports =
    -- "Case A below, as a log of two blocks, prints in full"
    prints case_a "row task asked amount done\n1 0 0 5 7\n2 1 2 2 5\nend 7\n"
    ∷ prints head "row task asked amount done\nend 0\n"
    -- "P is the row for 10 to 14": (0,0,2) (1,0,1), and (5,0,1) (4,1,1)
    ∷ prints (head ++ made (1 ∷ 2 ∷ 0 ∷ 0 ∷ 2 ∷ 1 ∷ 0 ∷ 1 ∷ []) 8) "refused 14 at 2\n"
    ∷ prints (head ++ made (1 ∷ 2 ∷ 5 ∷ 0 ∷ 1 ∷ 4 ∷ 1 ∷ 1 ∷ []) 16) "refused 11 at 2\n"
    ∷ prints (head ++ made (1 ∷ 1 ∷ 0 ∷ 0 ∷ 0 ∷ []) 3) "refused 13 at 1\n"
    -- "the block for 31 to 33, else 0"
    ∷ prints (head ++ wrong) "refused 31 at 1\n"
    ∷ prints (head ++ made (2 ∷ 2 ∷ 0 ∷ 0 ∷ 5 ∷ 2 ∷ 1 ∷ 2 ∷ []) 15) "refused 32 at 1\n"
    ∷ prints (head ++ made (1 ∷ 0 ∷ []) 2) "refused 33 at 1\n"
    ∷ prints (made (0 ∷ 3 ∷ 2 ∷ 1 ∷ []) 7) "refused 1 at 0\n"
    ∷ prints [] "refused 30 at 0\n" ∷ prints (head ++ 0 ∷ []) "refused 30 at 0\n"
    ∷ []
