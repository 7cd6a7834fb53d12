-- A log that is too long is refused by its length, so one byte past the longest is enough to print what is printed for all.
use Rattle.std.proofs.Common.{arith, ◌≡◌, ℕ, ◌/◌, ◌%◌, ◌<◌, false, List, length, take, sym, ap, ◌∙◌, take_all, length-take-le}
use borrow.Author.Tests.{leb-true, leb-false}
use Rattle.std.proofs.lemmas.Bool.Decides.{nat_tests}
use Rattle.lists.proofs.Testing.{tested}
use Rattle.lists.specs.Lists.{within}
use Rattle.std.specs.Prelude.{eqb, leb, ◌&&◌}
use Rattle.judging.specs.Log.{refused, judged}
use Rattle.judging.specs.Blocks.{length_fits}
use Rattle.report.specs.Report.{printed, report_text}
use Rattle.text.specs.Text.{refused_line}

too_long : (n : ℕ) → 13_312 < n → eqb (n % 512) 0 && within 1 26 (n / 512) ≡ false
too_long n long = grind (arith, nat_tests)

long_judged : (log : List ℕ) → 13_312 < length log → judged log ≡ refused 30 0
unfolding judged length_fits
long_judged log long = rw (too_long (length log) long)

long_printed : (log : List ℕ) → 13_312 < length log → report_text log ≡ refused_line 30 0
unfolding report_text printed
long_printed log long = rw (long_judged log long)

pub enough : (log : List ℕ) → report_text (take 13_313 log) ≡ report_text log
enough log =
    tested (leb (length log) 13_313)
    (λ e. ap report_text (take_all 13_313 log (leb-true (length log) 13_313 e)))
    (λ e.
    let more = leb-false (length log) 13_313 e in
    let front = length-take-le 13_313 log (omega (arith, more)) in
    long_printed (take 13_313 log) (omega (arith, front)) ∙ sym (long_printed log (omega (arith, more))))
