-- `judging::search::past_zeros` meets its contract: what is passed is zero. Assumes nothing.
use Rattle.std.specs.Prelude.{ℕ, ◌≡◌, false, not, List, [], ◌∷◌, take, drop, eqb}
use Rattle.std.proofs.Common.{sym, ap, ◌∙◌}
use Rattle.std.proofs.lemmas.Bool.{false≢true}
use Rattle.std.proofs.lemmas.List.{take-append-drop}
use lib.Pointwise.{pointwise, bytes_decides}
use Rattle.lists.specs.Lists.{zeros}
use Rattle.lists.proofs.Testing.{tested}
use Rattle.judging.proofs.search.past_zeros.Goals as goal

abbrev eight_zeros : List ℕ
eight_zeros = 0 ∷ 0 ∷ 0 ∷ 0 ∷ 0 ∷ 0 ∷ 0 ∷ 0 ∷ []

zeros_eight : (s eight after : List ℕ) → eight ≡ take 8 s → after ≡ drop 8 s
    → false ≡ not (pointwise eqb eight eight_zeros) → zeros after ≡ zeros s
unfolding zeros
zeros_eight s eight after e a h =
    let z : eight ≡ eight_zeros =
    tested (pointwise eqb eight eight_zeros)
    (bytes_decides eight eight_zeros).0
    (λ f. absurd (false≢true (rw f at h))) in
    let t : take 8 s ≡ eight_zeros = sym e ∙ z in
    sym (ap zeros (sym (take-append-drop 8 s)) ∙ rw (t, a))

pub loop-eight-preserved : goal.loop-eight-preserved
loop-eight-preserved c =
    let h = c.in-Some.ensures.cases in
    zeros_eight _ _ _ h.0 h.1 c.if-ne.ensures ∙ c.loop-eight.invariant
