-- What a read puts after the bytes that stand there is what the reader had next.
use Rattle.std.proofs.Common.{◌≡◌, ℕ, ◌+◌, ◌≤◌, List, ◌++◌, ◌-◌, rules, length, take, sym, ap, ◌∙◌, subst, length-take-le}
use Rattle.std.proofs.Math.Seq.{take-append-add}
use Rattle.std.proofs.lemmas.List.{take-append-le}
use Rattle.std.specs.Io.KnownBytes.{Consumes}
use Rattle.std.proofs.KnownBytes.{Consumes-trans}
use borrow.Rule.Slice.PartMut.{put_mid, post_of}
use Rattle.intake.proofs.read_full.Goals as goal

-- the front of a buffer after n bytes more were put at a place
put_there : (a k n : ℕ) (xs ys : List ℕ) → a ≤ length xs → n ≤ length ys → take (a + n) (put_mid a k xs ys) ≡ take a xs ++ take n ys
put_there a k n xs ys within fits =
    let rest = ys ++ post_of a k xs in
    ap (λ m. take (m + n) (take a xs ++ rest)) (sym (length-take-le a xs within))
    ∙ take-append-add (take a xs) rest n
    ∙ ap (λ l. take a xs ++ l) (take-append-le n ys (post_of a k xs) fits)

pub loop-done-preserved : goal.loop-done-preserved
loop-done-preserved g c =
    let so = c.loop-done.invariant in
    let most = length c.loop-done.buf - c.loop-done.done in
    let all = put_there c.loop-done.done most c.in_ok-n.n c.loop-done.buf c.read.new.buf so.0 c.in_ok-n.ensures.bound.0 in (
      search rules,
      search rules,
      subst (Consumes _ _) (sym all) (Consumes-trans _ _ _ _ _ so.2 c.in_ok-n.ensures.bytes.0),
    )
