-- `judging::judge` meets its contract: the length, then the blocks. Assumes nothing.
use Rattle.std.specs.Prelude.{ℕ, ◌≡◌, true, false, List}
use Rattle.std.proofs.Common.{sym, ◌∙◌}
use Rattle.judging.specs.Blocks.{blocks, length_fits}
use Rattle.judging.specs.Log.{judged, judged_from, refused}
use Rattle.judging.proofs.Accepted.{fits_sized}
use Rattle.judging.proofs.judge.Goals as goal

judged_fits : (log : List ℕ) → length_fits log ≡ true → judged_from log 0 (blocks log) ≡ judged log
unfolding judged
judged_fits log e = rw e

judged_misfits : (log : List ℕ) → length_fits log ≡ false → refused 30 0 ≡ judged log
unfolding judged
judged_misfits log e = rw e

pub returns-then-not-length_right : goal.returns-then-not-length_right
returns-then-not-length_right c = judged_misfits _ (sym c.if-not-length_right.ensures)

pub judge_blocks-requires : goal.judge_blocks-requires
judge_blocks-requires c =
    let s = fits_sized _ (sym c.if-not-length_right.ensures) in (s.whole, s.some, s.most)

pub returns : goal.returns
returns c = c.judge_blocks.ensures ∙ judged_fits _ (sym c.if-not-length_right.ensures)
