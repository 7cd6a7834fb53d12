-- `reader::first_row` meets its contract: a refused log has no record. Assumes nothing.
use Rattle.std.specs.Prelude.{ℕ, ◌≡◌, List, None}
use Rattle.std.proofs.Common.{rules, ap, sym}
use Rattle.judging.specs.Log.{judged, refused}
use Rattle.places.specs.Places.{first_block}
use Rattle.places.proofs.Places.{taken_none_at}
use Rattle.reader.specs.Reading.{first_found}
use Rattle.reader.proofs.first_row.Goals as goal

refused_first : (log : List ℕ) {n i : ℕ} → refused n i ≡ judged log → None ≡ first_found log
refused_first log e = taken_none_at log (first_block (judged log)) 0 (ap first_block (sym e))

pub returns-in_err-opened : goal.returns-in_err-opened
returns-in_err-opened c =
    let w = c.in_err-opened.was in
    let e = (rw w at c.open_log-opened.ensures.verdict) in
    let f = refused_first c.args.log.now e in
    record { verdict = search rules; found = search rules }
