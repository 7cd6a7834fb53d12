-- Laws of asking for a record block. In order: what an accepted asking says; what is answered, by the log and the
-- block; the stretch. Assumes nothing.
use Prim.Native.Nat.{ℕ, ◌+◌, ◌*◌, ◌-◌, ◌≤◌, ◌<◌}
use native.Mathlib.Omega.{arith}
use mathlib.Core.Path.{◌≡◌, refl, sym}
use mathlib.Core.Bool.{cond, ◌&&◌}
use mathlib.Core.List.{List, []}
use lib.ListN.{length, take, drop}
use lib.Dec.{leb, ltb}
use borrow.Author.Tests.{leb-true, ltb-true, le-leb, lt-ltb}
use Rattle.lists.proofs.Testing.{tested, and_true}
use Rattle.words.specs.Words.{word}
use Rattle.judging.specs.Blocks.{blocks, block, count}
use Rattle.judging.specs.Log.{Verdict, accepted, refused, judged, Reads}
use Rattle.logs.specs.Records.{after_log, block_asked, stretch}
use Rattle.judging.proofs.Accepted.{refused-not, cond_accepted, accepted_sized, accepted_counted, word_block}

-- ---- what an accepted asking says

after_accepted : (v next : Verdict) → after_log v next ≡ accepted → (v ≡ accepted) × (next ≡ accepted)
after_accepted accepted next e = (refl, e)
after_accepted (refused n i) next e = refused-not e

-- a record block that the log has
pub record Had (log : List ℕ) (i : ℕ) : Type 0 where
  pub reads : Reads log
  pub first : 0 < i
  pub inside : i < blocks log
  pub most : i < 26
  pub room : 512 * i + 512 ≤ length log
  pub counted : count (block log i) ≡ word log (512 * i + 4)
  pub few : word log (512 * i + 4) ≤ 41

pub asked_had : (log : List ℕ) (i : ℕ) → block_asked log i ≡ accepted → Had log i
unfolding block_asked
asked_had log i e =
    let a = after_accepted (judged log) (cond (leb 1 i && ltb i (blocks log)) accepted (refused 34 0)) e in
    let n = cond_accepted (leb 1 i && ltb i (blocks log)) accepted 34 0 a.1 in
    let t = and_true (leb 1 i) (ltb i (blocks log)) n.0 in
    let low = leb-true 1 i t.0 in
    let high = ltb-true i (blocks log) t.1 in
    let s = accepted_sized log a.0 in
    let w = word_block log i 4 (omega arith) in
    record {
      reads = a.0;
      first = low;
      inside = high;
      most = omega (arith, s.most);
      room = omega (arith, s.whole);
      counted = w;
      few = omega (arith, (accepted_counted log a.0 i low high).few);
    }

pub given_room : (log : List ℕ) (i : ℕ) → accepted ≡ block_asked log i
    → (512 * i + 512 ≤ length log) × (i < 26) × (word log (512 * i + 4) ≤ 41)
given_room log i e = let h = asked_had log i (sym e) in (h.room, h.most, h.few)

-- ---- what is answered

pub asked_refused : (log : List ℕ) (i n j : ℕ) → judged log ≡ refused n j → refused n j ≡ block_asked log i
unfolding block_asked
asked_refused log i n j e = rw e

module _ (log : List ℕ) (i : ℕ) (reads : Reads log) where
  pub asked_inside : 0 < i → i < blocks log → accepted ≡ block_asked log i
  unfolding block_asked
  asked_inside low high = rw (reads, le-leb 1 i low, lt-ltb i (blocks log) high)

  pub asked_outside : (0 < i → i < blocks log → ⊥) → refused 34 0 ≡ block_asked log i
  unfolding block_asked
  asked_outside out =
      tested (leb 1 i && ltb i (blocks log))
      (λ t.
      let p = and_true (leb 1 i) (ltb i (blocks log)) t in
      absurd (out (leb-true 1 i p.0) (ltb-true i (blocks log) p.1)))
      (λ f. rw (reads, f))

-- ---- the stretch

pub stretch_given : (log : List ℕ) (i c : ℕ) → block_asked log i ≡ accepted → c ≡ word log (512 * i + 4)
    → take (512 * i + 8 + 12 * c - (512 * i + 8)) (drop (512 * i + 8) log) ≡ stretch log i
unfolding stretch
stretch_given log i c h e =
    let n = (asked_had log i h).counted in
    let d : 512 * i + 8 + 12 * c - (512 * i + 8) ≡ 12 * count (block log i) = omega arith in
    rw (d, h)

pub stretch_refused : (log : List ℕ) (i n j : ℕ) → block_asked log i ≡ refused n j → stretch log i ≡ []
unfolding stretch
stretch_refused log i n j h = rw h
