-- Laws of the queue in its array, over the policy. In order: its tasks; a task that leaves; the queue from place 0 on,
-- and a task that joins. Assumes nothing.
use Prim.Native.Nat.{ℕ, suc, ◌+◌, ◌-◌, ◌≤◌, ◌<◌}
use native.Mathlib.Omega.{arith}
use native.Mathlib.Numerals.{add-one}
use mathlib.Core.Path.{◌≡◌, refl, sym, ap, ◌∙◌, subst}
use mathlib.Core.Bool.{true, false, cond}
use mathlib.Core.List.{List, [], ◌∷◌, ◌++◌}
use lib.ListN.{length, set, take, drop, length-append, length-drop, take-append-drop}
use lib.Seq.{length-take-le, get_or-take, take_at, drop_at, take-take, take-suc-set}
use lib.Dec.{ltb}
use Rattle.lists.specs.Lists.{at, Below, times, without}
use Rattle.lists.proofs.Testing.{tested, cond-true, cond-false}
use Rattle.lists.proofs.Places.{below_append, below_take, below_drop, without_place}
use Rattle.rule.specs.Setups.{is_priority}
use Rattle.rule.specs.declared.Setup.{Setup}
use Rattle.line.specs.Places.{ring, queue_at, taken_out}
use Rattle.line.proofs.Rings.{ring_zero, length_ring, times_ring, ring_head, take_taken_out, ring_taken_out}

-- ---- the tasks of the queue

pub queue_at_priority : (p : Setup) (h n : ℕ) (q : List ℕ) → is_priority p ≡ true → queue_at p h n q ≡ take n q
unfolding queue_at
queue_at_priority p h n q e = cond-true (take n q) (ring h n q) e

pub queue_at_robin : (p : Setup) (h n : ℕ) (q : List ℕ) → is_priority p ≡ false → queue_at p h n q ≡ ring h n q
unfolding queue_at
queue_at_robin p h n q e = cond-false (take n q) (ring h n q) e

queueAt-either {ℓ} : (P : List ℕ → Type ℓ) (p : Setup) (h n : ℕ) (q : List ℕ) → (is_priority p ≡ true → P (take n q))
    → (is_priority p ≡ false → P (ring h n q)) → P (queue_at p h n q)
queueAt-either P p h n q f r =
    tested (is_priority p)
    (λ e. subst P (sym (queue_at_priority p h n q e)) (f e))
    (λ e. subst P (sym (queue_at_robin p h n q e)) (r e))

pub times_queue_at : (p : Setup) (k h n : ℕ) (q : List ℕ) → times k (queue_at p h n q) ≡ times k (take n q)
times_queue_at p k h n q =
    queueAt-either (λ (x : List ℕ). times k x ≡ times k (take n q)) p h n q (λ e. refl) (λ e. times_ring k h n q)

pub length_queue_at : (p : Setup) (h n : ℕ) (q : List ℕ) → n ≤ length q → length (queue_at p h n q) ≡ n
length_queue_at p h n q l =
    queueAt-either (λ (x : List ℕ). length x ≡ n) p h n q (λ e. length-take-le n q l) (λ e. length_ring h n q l)

pub below_queue_at : (p : Setup) (m h n : ℕ) (q : List ℕ) → Below m q → Below m (queue_at p h n q)
below_queue_at p m h n q b =
    let t : Below m (take n q) = below_take m n q b in
    queueAt-either (Below m) p h n q (λ e. t)
    (λ e.
    below_append m (drop h (take n q)) (take h (take n q)) (below_drop m h (take n q) t) (below_take m h (take n q) t))

-- where the head is place 0
pub queue_at_zero : (p : Setup) (n : ℕ) (q : List ℕ) → queue_at p 0 n q ≡ take n q
queue_at_zero p n q = queueAt-either (λ (x : List ℕ). x ≡ take n q) p 0 n q (λ e. refl) (λ e. ring_zero n q)

-- ---- a task leaves

pub queue_at_taken_out : (p : Setup) (h n : ℕ) (q : List ℕ) (r : ℕ) → h < n → n ≤ length q
    → times (at q h) (queue_at p h n q) ≡ 1 → (is_priority p ≡ false → r ≡ cond (ltb h (n - 1)) h 0)
    → queue_at p r (n - 1) (taken_out h q) ≡ without (at q h) (queue_at p h n q)
queue_at_taken_out p h n q r b l once e =
    let l' : length (take n q) ≡ n = length-take-le n q l in
    let k : at (take n q) h ≡ at q h = get_or-take n q h 0 b in
    let t : times (at q h) (take n q) ≡ 1 = sym (times_queue_at p (at q h) h n q) ∙ once in
    tested (is_priority p)
    (λ f.
    queue_at_priority p r (n - 1) (taken_out h q) f
    ∙ take_taken_out h n q b l
    ∙ ap (λ (x : List ℕ). x ++ drop (suc h) (take n q)) (sym (take-take h n q (omega arith)))
    ∙ sym (without_place (take n q) h (omega arith) (ap (λ (x : ℕ). times x (take n q)) k ∙ t))
    ∙ ap (λ (x : ℕ). without x (take n q)) k
    ∙ ap (without (at q h)) (sym (queue_at_priority p h n q f)))
    (λ f.
    let u : times (at q h) (at q h ∷ (drop (suc h) (take n q) ++ take h (take n q))) ≡ 1 =
    sym (ap (times (at q h)) (ring_head h n q b l)) ∙ times_ring (at q h) h n q ∙ t in
    queue_at_robin p r (n - 1) (taken_out h q) f
    ∙ ap (λ (x : ℕ). ring x (n - 1) (taken_out h q)) (e f)
    ∙ ring_taken_out h n q b l
    ∙ sym (without_place (at q h ∷ (drop (suc h) (take n q) ++ take h (take n q))) 0 (omega arith) u)
    ∙ ap (without (at q h)) (sym (queue_at_robin p h n q f ∙ ring_head h n q b l)))

-- ---- the queue from place 0 on, and a task that joins it

-- under priority it is there
pub straight_same : (p : Setup) (h n : ℕ) (q : List ℕ) → is_priority p ≡ true → q ≡ queue_at p h n q ++ drop n q
straight_same p h n q e =
    sym (ap (λ (x : List ℕ). x ++ drop n q) (queue_at_priority p h n q e) ∙ take-append-drop n q)

module _ (p : Setup) (h n : ℕ) (q : List ℕ) {q' : List ℕ} (l : n ≤ length q)
    (e : q' ≡ queue_at p h n q ++ drop n q) where
  pub take_straight : take n q' ≡ queue_at p h n q
  take_straight = ap (take n) e ∙ take_at (queue_at p h n q) (drop n q) n (length_queue_at p h n q l)

  pub drop_straight : drop n q' ≡ drop n q
  drop_straight = ap (drop n) e ∙ drop_at (queue_at p h n q) (drop n q) n (length_queue_at p h n q l)

  pub length_straight : length q' ≡ length q
  length_straight =
      omega (
        arith,
        ap length e,
        length-append (queue_at p h n q) (drop n q),
        length_queue_at p h n q l,
        length-drop n q,
      )

  pub straight_priority : is_priority p ≡ true → q' ≡ q
  straight_priority f = e ∙ sym (straight_same p h n q f)

  pub queue_at_joined : (k r : ℕ) → n < length q → (is_priority p ≡ false → r ≡ 0)
      → queue_at p r (n + 1) (set q' n k) ≡ queue_at p h n q ++ k ∷ []
  queue_at_joined k r b z =
      let t : take (n + 1) (set q' n k) ≡ queue_at p h n q ++ k ∷ [] =
      ap (λ (j : ℕ). take j (set q' n k)) (add-one n)
      ∙ take-suc-set q' n k (omega (arith, length_straight))
      ∙ ap (λ (x : List ℕ). x ++ k ∷ []) take_straight in
      tested (is_priority p)
      (λ f. queue_at_priority p r (n + 1) (set q' n k) f ∙ t)
      (λ f.
      ap (λ (x : ℕ). queue_at p x (n + 1) (set q' n k)) (z f)
      ∙ queue_at_zero p (n + 1) (set q' n k)
      ∙ t)
