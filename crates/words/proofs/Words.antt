-- Laws of `word`, `words` and `check`. In order: a word of a part is a word of the whole; a word past the end; the
-- sum of the words, one word more; a sum kept modulo 2 ^ 32 is the check. Assumes nothing.
use Rattle.std.proofs.Common.{◌≡◌, ℕ, zero, suc, ◌+◌, ◌*◌, ◌%◌, ◌<◌, ◌≤◌, List, length, take, drop, ap, ◌∙◌}
use Rattle.std.proofs.Common.{add_assoc, suc-add, arith, ◌-◌, length-drop, get_or-drop, get_or-take}
use lib.ListN.{get_or-eq_default}
use lib.Seq.{take-length}
use Rattle.std.specs.List.{slice_range}
use Rattle.lists.specs.Lists.{at, total}
use Rattle.words.specs.Words.{word, words, check}

-- ---- parts

pub word_drop : (n : ℕ) (s : List ℕ) (i : ℕ) → word (drop n s) i ≡ word s (n + i)
unfolding word
word_drop n s i = simp (get_or-drop, add_assoc)

pub word_take : (n : ℕ) (s : List ℕ) (i : ℕ) → i + 3 < n → word (take n s) i ≡ word s i
unfolding word
word_take n s i h =
    cc (
      get_or-take n s i 0 (omega arith),
      get_or-take n s (i + 1) 0 (omega arith),
      get_or-take n s (i + 2) 0 (omega arith),
      get_or-take n s (i + 3) 0 (omega arith),
    )

-- the bytes from i on
pub word_rest : (s rest : List ℕ) (i : ℕ) → rest ≡ slice_range s i (length s) → word rest 0 ≡ word s i
word_rest s rest i e =
    let l : length (drop i s) ≡ length s - i = length-drop i s in
    rw (e, ← l, take-length (drop i s)) (word_drop i s 0 ∙ ap (word s) (omega arith))

-- ---- past the end

-- a word of which three bytes, two, one or none stand in the list
module _ (s : List ℕ) (i : ℕ) where
  pub word_three : length s ≤ i + 3 → word s i ≡ at s i + 256 * at s (i + 1) + 65_536 * at s (i + 2)
  unfolding word
  word_three h = omega (arith, get_or-eq_default s 0 {n = i + 3} h)

  pub word_two : length s ≤ i + 2 → word s i ≡ at s i + 256 * at s (i + 1)
  word_two h = omega (arith, word_three (omega arith), get_or-eq_default s 0 {n = i + 2} h)

  pub word_one : length s ≤ i + 1 → word s i ≡ at s i
  word_one h = omega (arith, word_two (omega arith), get_or-eq_default s 0 {n = i + 1} h)

  pub word_none : length s ≤ i → word s i ≡ 0
  word_none h = omega (arith, word_one (omega arith), get_or-eq_default s 0 {n = i} h)

-- ---- sums

pub total_words : (k : ℕ) (s : List ℕ) → total (words (k + 1) s) ≡ total (words k s) + word s (4 * k)
unfolding words total
total_words zero s = omega arith
total_words (suc k) s =
    let e : 4 + 4 * k ≡ 4 * suc k = omega arith in
    let w : word (drop 4 s) (4 * k) ≡ word s (4 * suc k) = word_drop 4 s (4 * k) ∙ ap (word s) e in
    rw (suc-add k 1) (omega (arith, total_words k (drop 4 s)))

-- "wrapping u32 addition over little-endian words, tied to a sum modulo 4,294,967,296": one addition more, and all
-- 127
pub sum_more : (s : List ℕ) (k sum next : ℕ) → sum ≡ (total (words k s) + 1) % 4_294_967_296
    → next ≡ (sum + word s (4 * k)) % 4_294_967_296 → next ≡ (total (words (k + 1) s) + 1) % 4_294_967_296
sum_more s k sum next h g = omega (arith, total_words k s)

pub sum_check : (s : List ℕ) (k sum : ℕ) → sum ≡ (total (words k s) + 1) % 4_294_967_296 → k ≡ 127 → sum ≡ check s
unfolding check
sum_check s k sum h e = rw e at h
