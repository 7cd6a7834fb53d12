-- Laws of the queue's array as a list. In order: the ring; the ring put straight; a task taken out at its place.
-- Assumes nothing.
use Prim.Native.Nat.{ℕ, zero, suc, ◌+◌, ◌-◌, ◌≤◌, ◌<◌}
use native.Mathlib.Omega.{arith}
use native.Mathlib.Numerals.{add-one}
use mathlib.Core.Path.{◌≡◌, sym, ap, ap₂, ◌∙◌}
use mathlib.Core.Bool.{cond}
use mathlib.Core.List.{List, [], ◌∷◌, ◌++◌, append_assoc, append-nil}
use lib.ListN.{length, take, drop, set, length-append, length-drop, take-append-drop}
use lib.Seq.{take-suc, take-length, take-take, take_at, take-append-le, take-append-add, length-take-le}
use lib.Seq.{drop-cons, drop-length, drop-drop, drop_at, drop-append-le, drop-append-add}
use lib.Seq.{set_at}
use lib.Seq.{slice-cons, length-slice}
use lib.Dec.{eqb, ltb}
use borrow.Rule.Slice.PartMut.{mid_of, put_mid}
use borrow.Author.Tests.{eqb-true, ltb-false}
use Rattle.lists.specs.Lists.{at, Below, times}
use Rattle.lists.proofs.Testing.{tested, cond-true, cond-false}
use Rattle.lists.proofs.Counting.{times_append}
use Rattle.lists.proofs.Places.{drop_take, length_zero, below_append, below_take, below_drop, clear_behind}
use Rattle.rule.specs.Tick.{head_back}
use Rattle.rule.specs.View.{Clear}
use Rattle.line.specs.Places.{ring, taken_out}

-- ---- the ring

abbrev around : ℕ → List ℕ → List ℕ
around h l = drop h l ++ take h l

around_all : (h : ℕ) (l : List ℕ) → length l ≡ h → around h l ≡ l
around_all h l e = rw (sym e) (ap (λ (x : List ℕ). x ++ take (length l) l) (drop-length l) ∙ take-length l)

head_back_around : (h : ℕ) (l : List ℕ) → h < length l → head_back (around h l) ≡ around (suc h) l
unfolding head_back
head_back_around h l b =
    ap (λ (x : List ℕ). head_back (x ++ take h l)) (drop-cons l h 0 b)
    ∙ append_assoc (drop (suc h) l) (take h l) (at l h ∷ [])
    ∙ ap (λ (x : List ℕ). drop (suc h) l ++ x) (sym (take-suc l h 0 b))

pub ring_zero : (n : ℕ) (q : List ℕ) → ring 0 n q ≡ take n q
ring_zero n q = append-nil (take n q)

-- a queue that starts at place 0 is straight
pub straight_zero : (n : ℕ) (q : List ℕ) → q ≡ ring 0 n q ++ drop n q
straight_zero n q = sym (ap (λ (x : List ℕ). x ++ drop n q) (ring_zero n q) ∙ take-append-drop n q)

pub length_ring : (h n : ℕ) (q : List ℕ) → n ≤ length q → length (ring h n q) ≡ n
length_ring h n q b =
    let l = take n q in
    let e : length (take h l ++ drop h l) ≡ length l = ap length (take-append-drop h l) in
    omega (arith, length-append (drop h l) (take h l), length-append (take h l) (drop h l), length-take-le n q b)

pub times_ring : (k h n : ℕ) (q : List ℕ) → times k (ring h n q) ≡ times k (take n q)
times_ring k h n q =
    let l = take n q in
    let e : times k (take h l ++ drop h l) ≡ times k l = ap (times k) (take-append-drop h l) in
    omega (arith, times_append k (drop h l) (take h l), times_append k (take h l) (drop h l))

pub ring_head : (h n : ℕ) (q : List ℕ) → h < n → n ≤ length q
    → ring h n q ≡ at q h ∷ (drop (suc h) (take n q) ++ take h (take n q))
ring_head h n q b l = ap (λ (x : List ℕ). x ++ take h (take n q)) (slice-cons h n q 0 b l)

-- a turn of the queue is a step of the ring's head
pub head_back_ring : (h n : ℕ) (q : List ℕ) → h < n → n ≤ length q
    → head_back (ring h n q) ≡ ring (cond (eqb (h + 1) n) 0 (h + 1)) n q
head_back_ring h n q b l =
    let m : length (take n q) ≡ n = length-take-le n q l in
    head_back_around h (take n q) (omega arith)
    ∙ tested (eqb (h + 1) n)
    (λ e.
    around_all (suc h) (take n q) (m ∙ sym (eqb-true (h + 1) n e) ∙ add-one h)
    ∙ sym (ring_zero n q)
    ∙ ap (λ (k : ℕ). ring k n q) (sym (cond-true 0 (h + 1) e)))
    (λ e. ap (λ (k : ℕ). ring k n q) (sym (add-one h) ∙ sym (cond-false 0 (h + 1) e)))

-- ---- a task taken out

pub below_taken_out : (m h : ℕ) (q : List ℕ) → Below m q → Below m (taken_out h q)
below_taken_out m h q b =
    below_append m (take h q) (drop (h + 1) q ++ 0 ∷ []) (below_take m h q b)
    (below_append m (drop (h + 1) q) (0 ∷ []) (below_drop m (h + 1) q b) zeros)
  where
    zeros : Below m (0 ∷ [])
    zeros zero = omega (arith, b 0)
    zeros (suc k) = omega (arith, b 0)

pub length_taken_out : (h : ℕ) (q : List ℕ) → h < length q → length (taken_out h q) ≡ length q
length_taken_out h q b =
    omega (
      arith,
      length-append (take h q) (drop (h + 1) q ++ 0 ∷ []),
      length-append (drop (h + 1) q) (0 ∷ []),
      length-take-le h q (omega arith),
      length-drop (h + 1) q,
    )

module _ (h n : ℕ) (q : List ℕ) (b : h < n) (l : n ≤ length q) where
  head_length : length (take h q) ≡ h
  head_length = length-take-le h q (omega arith)

  split : n - 1 ≡ length (take h q) + (n - 1 - h)
  split = omega (arith, head_length)

  pub take_taken_out : take (n - 1) (taken_out h q) ≡ take h q ++ drop (suc h) (take n q)
  take_taken_out =
      let m = n - 1 - h in
      let e : n - suc h ≡ m = omega arith in
      ap (λ (k : ℕ). take k (taken_out h q)) split
      ∙ take-append-add (take h q) (drop (h + 1) q ++ 0 ∷ []) m
      ∙ ap (λ (x : List ℕ). take h q ++ x)
      (take-append-le m (drop (h + 1) q) (0 ∷ []) (simp length-drop (omega arith))
      ∙ ap (λ (k : ℕ). take m (drop k q)) (add-one h)
      ∙ ap (λ (k : ℕ). take k (drop (suc h) q)) (sym e)
      ∙ sym (drop_take (suc h) n q (omega arith)))

  pub drop_taken_out : drop (n - 1) (taken_out h q) ≡ drop n q ++ 0 ∷ []
  drop_taken_out =
      let m = n - 1 - h in
      let e : h + 1 + m ≡ n = omega arith in
      ap (λ (k : ℕ). drop k (taken_out h q)) split
      ∙ drop-append-add (take h q) (drop (h + 1) q ++ 0 ∷ []) m
      ∙ drop-append-le m (drop (h + 1) q) (0 ∷ []) (simp length-drop (omega arith))
      ∙ ap (λ (x : List ℕ). x ++ 0 ∷ []) (drop-drop m (h + 1) q ∙ ap (λ (k : ℕ). drop k q) e)

  ahead_length : length (take h q ++ drop (suc h) (take n q)) ≡ n - 1
  ahead_length = omega (arith, length-append (take h q) (drop (suc h) (take n q)), head_length, length-slice (suc h) n q l)

  -- Those behind place h are put from it on, and the last place is cleared, as those behind the queue are.
  pub lowered_taken_out : Clear n q → (m : List ℕ) → m ≡ mid_of (h + 1) (n - (h + 1)) q
      → set (put_mid h (n - 1 - h) q m) (n - 1) 0 ≡ taken_out h q
  lowered_taken_out c m e =
      let a = take h q in
      let t = drop (suc h) (take n q) in
      let y = at q (n - 1) in
      let z : suc (n - 1) ≡ n = omega arith in
      let part : mid_of (h + 1) (n - (h + 1)) q ≡ t =
      sym (drop_take (h + 1) n q (omega arith)) ∙ ap (λ (k : ℕ). drop k (take n q)) (add-one h) in
      let whole : h + (n - 1 - h) ≡ n - 1 = omega arith in
      let moved : put_mid h (n - 1 - h) q m ≡ (a ++ t) ++ y ∷ drop n q =
      ap₂ (λ (x z : List ℕ). a ++ (x ++ z))
      (e ∙ part)
      (drop-drop (n - 1 - h) h q
      ∙ ap (λ (k : ℕ). drop k q) whole
      ∙ drop-cons q (n - 1) 0 (omega arith)
      ∙ ap (λ (k : ℕ). y ∷ drop k q) z)
      ∙ sym (append_assoc a t (y ∷ drop n q)) in
      ap (λ (x : List ℕ). set x (n - 1) 0) moved
      ∙ set_at (a ++ t) y (drop n q) 0 (n - 1) ahead_length
      ∙ ap₂ (λ (x z : List ℕ). x ++ z) (sym take_taken_out) (clear_behind q n c.clear ∙ sym drop_taken_out)
      ∙ take-append-drop (n - 1) (taken_out h q)

  -- behind the last place none stands
  pub last_taken_out : Clear n q → h + 1 ≡ n → set q (n - 1) 0 ≡ taken_out h q
  last_taken_out c e =
      let z : n - 1 - h ≡ 0 = omega arith in
      let z' : n - (h + 1) ≡ 0 = omega arith in
      ap (λ (x : List ℕ). set x (n - 1) 0)
      (sym (take-append-drop h q) ∙ ap (λ (k : ℕ). take h q ++ drop k (drop h q)) (sym z))
      ∙ lowered_taken_out c [] (ap (λ (k : ℕ). take k (drop (h + 1) q)) (sym z'))

  -- the ring goes on at the place that was left, or at 0 where that was the last
  pub ring_taken_out : ring (cond (ltb h (n - 1)) h 0) (n - 1) (taken_out h q)
      ≡ drop (suc h) (take n q) ++ take h (take n q)
  ring_taken_out =
      let m = n - 1 in
      let a = take h q in
      let e = drop (suc h) (take n q) in
      let k = take m (taken_out h q) in
      let s : e ++ a ≡ e ++ take h (take n q) = ap (λ (x : List ℕ). e ++ x) (sym (take-take h n q (omega arith))) in
      tested (ltb h m)
      (λ f.
      ap (λ (x : ℕ). ring x m (taken_out h q)) (cond-true h 0 f)
      ∙ ap (λ (x : List ℕ). drop h x ++ take h x) take_taken_out
      ∙ ap (λ (x : List ℕ). x ++ take h (a ++ e)) (drop_at a e h head_length)
      ∙ ap (λ (x : List ℕ). e ++ x) (take_at a e h head_length)
      ∙ s)
      (λ f.
      let z : e ≡ [] = length_zero e (omega (arith, ltb-false h m f, length-slice (suc h) n q l)) in
      ap (λ (x : ℕ). ring x m (taken_out h q)) (cond-false h 0 f)
      ∙ ring_zero m (taken_out h q)
      ∙ take_taken_out
      ∙ ap (λ (x : List ℕ). a ++ x) z
      ∙ append-nil a
      ∙ ap (λ (x : List ℕ). x ++ a) (sym z)
      ∙ s)
