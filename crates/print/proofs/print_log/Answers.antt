-- The buffer's front is the reader's, what `report` puts is printed for it and so for all that the reader had, and it is
-- written.
use Rattle.std.proofs.Common.{rules, Option, None, Some, IfSome, take, ◌≡◌, ℕ, List, ap, ◌∙◌, subst}
use Rattle.std.proofs.lemmas.Result.{on_ok_weaker}
use Rattle.std.specs.Io.KnownBytes.{Appends}
use Rattle.report.specs.Report.{report_text}
use Rattle.print.proofs.Whole.{enough}
use Rattle.print.proofs.print_log.Goals as goal

written : (known held after : Option (List ℕ)) (front put : List ℕ) (room : ℕ)
    → room ≡ 13_313 → IfSome known (λ bytes. front ≡ take room bytes) → put ≡ report_text front → Appends held after put
    → IfSome known (λ bytes. Appends held after (report_text bytes))
written None held after front put room fits read printed wrote = tt
written (Some bytes) held after front put room fits read printed wrote =
    let first = read ∙ ap (λ n. take n bytes) fits in
    subst (Appends held after) (printed ∙ ap report_text first ∙ enough bytes) wrote

pub returns : goal.returns
returns g c =
    on_ok_weaker _
    (written _ _ _ _ _ _ (search rules) c.in_ok-n.ensures.bytes c.report-m.ensures.wrote.text)
    c.write_all.ensures.bytes
