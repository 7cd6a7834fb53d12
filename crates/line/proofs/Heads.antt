-- Where the task stands that is served. In order: who is chosen; of two tasks, the one that goes first; the scan for
-- the one that goes first of many; heads; one more task. Assumes nothing.
use Prim.Native.Nat.{ℕ, zero, suc, ◌+◌, ◌-◌, ◌≤◌, ◌<◌, zero-le}
use native.Mathlib.Omega.{arith}
use native.Mathlib.Numerals.{add-one}
use native.Mathlib.Nat.{not-suc-le-zero, le_of_suc-le-suc}
use mathlib.Core.Path.{◌≡◌, refl, sym, ap, ◌∙◌}
use mathlib.Core.Bool.{Bool, true, false, cond, ◌&&◌, ◌||◌}
use mathlib.Core.List.{List, [], ◌∷◌, ◌++◌}
use lib.ListN.{length, set, take, drop, drop_of_length-le}
use lib.Seq.{length-take-le, take-suc, take-set-le, slice-cons}
use lib.Dec.{eqb, ltb}
use borrow.Author.Tests.{lt-ltb, le-ltb, ltb-true, ltb-false, eq-eqb, ne_eqb}
use Rattle.lists.specs.Lists.{at}
use Rattle.lists.proofs.Testing.{tested, cond-true, cond-false}
use Rattle.lists.proofs.Totals.{at_set_other}
use Rattle.rule.specs.Setups.{is_priority}
use Rattle.rule.specs.Tick.{before, best, chosen}
use Rattle.rule.specs.declared.Setup.{Setup}
use Rattle.line.specs.Places.{queue_at, Best, Heads}
use Rattle.line.proofs.Rings.{ring_head}
use Rattle.line.proofs.Queues.{queue_at_priority, queue_at_robin}

-- ---- who is chosen

chosen_best : (p : Setup) (n : ℕ) (q : List ℕ) → is_priority p ≡ true → 0 < n → n ≤ length q
    → chosen p (take n q) ≡ best p.priority (at q 0) (drop 1 (take n q))
unfolding chosen
chosen_best p zero q e h l = absurd (not-suc-le-zero h)
chosen_best p (suc n) [] e h l = absurd (not-suc-le-zero l)
chosen_best p (suc n) (x ∷ q) e h l = cond-true _ x e

pub chosen_robin : (p : Setup) (h n : ℕ) (q : List ℕ) → is_priority p ≡ false → h < n → n ≤ length q
    → chosen p (queue_at p h n q) ≡ at q h
unfolding chosen
chosen_robin p h n q e b l = ap (chosen p) (queue_at_robin p h n q e ∙ ring_head h n q b l) ∙ cond-false _ (at q h) e

-- ---- of two tasks, the one that goes first

-- the task a, with priority x, and another, with priority y
module _ (prio : List ℕ) (a b : ℕ) {x y : ℕ} (ex : x ≡ at prio a) (ey : y ≡ at prio b) where
  pub before_overtakes : (r : Bool) → r ≡ ltb x y || (eqb x y && ltb b a) → before prio a b ≡ cond r b a
  unfolding before
  before_overtakes r e =
      rw (e, ← ex, ← ey)
      (tested (ltb x y)
      (λ f. rw f)
      (λ f.
      let h = ltb-false x y f in
      rw f
      (tested (ltb y x)
      (λ g. let i = ltb-true y x g in rw (g, ne_eqb x y (omega arith)))
      (λ g. let i = ltb-false y x g in rw (g, eq-eqb x y (omega arith))))))

  pub before_stays : y < x → before prio a b ≡ a
  before_stays h = before_overtakes false (rw (le-ltb x y (omega arith), ne_eqb x y (omega arith)))

-- ---- the scan

-- of the first k tasks, the one that goes first is that at the place
pub record Scanned (prio : List ℕ) (n : ℕ) (q : List ℕ) (place task top k : ℕ) : Type 0 where
  pub inside : place ≤ n - 1
  pub stands : task ≡ at q place
  pub ranks : top ≡ at prio task
  pub ahead : best prio (at q 0) (drop 1 (take n q)) ≡ best prio (at q place) (drop k (take n q))

module _ {prio : List ℕ} {n : ℕ} {q : List ℕ} {place task top k : ℕ} (S : Scanned prio n q place task top k)
    (l : n ≤ length q) where
  -- the place k is passed, and of the two tasks that at j goes first
  pub scanned_step : {j place' task' top' : ℕ} → k < n → j ≤ n - 1 → before prio task (at q k) ≡ at q j → place' ≡ j
      → task' ≡ at q j → top' ≡ at prio (at q j) → Scanned prio n q place' task' top' (k + 1)
  unfolding best
  scanned_step {place' = place'} h i e ep et er =
      record {
        inside = omega arith;
        stands = et ∙ ap (at q) (sym ep);
        ranks = er ∙ ap (at prio) (sym et);
        ahead =
            S.ahead
            ∙ ap (best prio (at q place)) (slice-cons k n q 0 h l)
            ∙ ap (λ (x : ℕ). best prio (before prio x (at q k)) (drop (suc k) (take n q))) (sym S.stands)
            ∙ ap (λ (x : ℕ). best prio x (drop (suc k) (take n q))) (e ∙ ap (at q) (sym ep))
            ∙ ap (λ (m : ℕ). best prio (at q place') (drop m (take n q))) (sym (add-one k));
      }

  -- the task before goes first still
  pub scanned_stays : {place' task' top' : ℕ} → k < n → before prio task (at q k) ≡ task → place' ≡ place → task' ≡ task
      → top' ≡ top → Scanned prio n q place' task' top' (k + 1)
  scanned_stays h e ep et er =
      scanned_step h S.inside (e ∙ S.stands) ep (et ∙ S.stands) (er ∙ S.ranks ∙ ap (at prio) S.stands)

  pub scanned_end : n ≤ k → Best prio n q place
  unfolding best
  scanned_end h =
      let z : drop k (take n q) ≡ [] = drop_of_length-le (take n q) {i = k} (omega (arith, length-take-le n q l)) in
      record { inside = S.inside; first = sym (S.ahead ∙ ap (best prio (at q place)) z) }

-- ---- heads

module _ {p : Setup} {h n : ℕ} {q : List ℕ} {r : ℕ} (H : Heads p h n q r) where
  pub heads_inside : r ≤ n - 1
  heads_inside =
      tested (is_priority p)
      (λ e. (H.priority e).inside)
      (λ e.
      tested (ltb h n)
      (λ f. rw (H.robin e, f) (omega (arith, ltb-true h n f)))
      (λ f. rw (H.robin e, f) zero-le))

  pub heads_serves : 0 < n → n ≤ length q → at q r ≡ chosen p (queue_at p r n q)
  heads_serves y l =
      tested (is_priority p)
      (λ e. (H.priority e).first ∙ sym (ap (chosen p) (queue_at_priority p r n q e) ∙ chosen_best p n q e y l))
      (λ e. sym (chosen_robin p r n q e (omega (arith, heads_inside)) l))

-- a head at which the chosen task stands
pub serves_heads : {p : Setup} {h : ℕ} (n : ℕ) {q : List ℕ} → h ≤ n - 1 → n ≤ length q
    → (0 < n → at q h ≡ chosen p (queue_at p h n q)) → Heads p h n q h
unfolding best
serves_heads {h = h} zero b l c =
    let z : h ≡ 0 = omega arith in
    record {
      robin = λ e. rw z;
      priority = λ e. record { inside = b; first = rw z };
    }
serves_heads {p} {h} (suc n) {q} b l c =
    record {
      robin = λ e. sym (cond-true h 0 (lt-ltb h (suc n) (omega arith)));
      priority = λ e.
          record {
            inside = b;
            first =
                c (omega arith)
                ∙ ap (chosen p) (queue_at_priority p h (suc n) q e)
                ∙ chosen_best p (suc n) q e (omega arith) l;
          };
    }

-- what stands behind the queue does not matter
pub heads_set : {p : Setup} {h : ℕ} (n : ℕ) {q : List ℕ} (k : ℕ) → Heads p h n q h → Heads p h n (set q n k) h
unfolding best
heads_set {h = h} zero k H =
    let z : h ≡ 0 = omega (arith, heads_inside H) in
    record {
      robin = H.robin;
      priority = λ e. record { inside = (H.priority e).inside; first = rw z };
    }
heads_set {p} {h} (suc n) {q} k H =
    let b : h ≤ suc n - 1 = heads_inside H in
    let o : at (set q (suc n) k) h ≡ at q h = at_set_other q (suc n) k h (λ e. omega arith) in
    let z : at (set q (suc n) k) 0 ≡ at q 0 = at_set_other q (suc n) k 0 (λ e. omega arith) in
    record {
      robin = H.robin;
      priority = λ e.
          record {
            inside = b;
            first =
                o
                ∙ (H.priority e).first
                ∙ ap (λ (x : ℕ). best p.priority x (drop 1 (take (suc n) q))) (sym z)
                ∙ ap (λ (x : List ℕ). best p.priority (at (set q (suc n) k) 0) (drop 1 x))
                (sym (take-set-le (suc n) q (suc n) k (omega arith)));
          };
    }

-- ---- one more task

before_same : (prio : List ℕ) (a : ℕ) → before prio a a ≡ a
unfolding before
before_same prio a =
    tested (ltb (at prio a) (at prio a)) (λ e. rw e) (λ e. rw e (tested (ltb a a) (λ f. rw f) (λ f. rw f)))

best_append : (prio : List ℕ) (b : ℕ) (xs : List ℕ) (y : ℕ)
    → best prio b (xs ++ y ∷ []) ≡ before prio (best prio b xs) y
unfolding best
best_append prio b [] y = refl
best_append prio b (x ∷ xs) y = best_append prio (before prio b x) xs y

-- of it and the best of the others, the one that goes first
pub best_more : {prio q : List ℕ} {h n r : ℕ} → Best prio n q h → n < length q → r ≤ n
    → before prio (at q h) (at q n) ≡ at q r → Best prio (n + 1) q r
unfolding best
best_more {prio} {q} {n = n} B l i e =
    record {
      inside = omega arith;
      first = sym e ∙ ap (λ (k : ℕ). before prio k (at q n)) B.first ∙ more q n l;
    }
  where
    more : (q : List ℕ) (n : ℕ) → n < length q
        → before prio (best prio (at q 0) (drop 1 (take n q))) (at q n) ≡ best prio (at q 0) (drop 1 (take (n + 1) q))
    more [] n l = absurd (not-suc-le-zero l)
    more (x ∷ q) zero l = before_same prio x
    more (x ∷ q) (suc n) l =
        sym (best_append prio x (take n q) (at q n))
        ∙ ap (best prio x) (sym (take-suc q n 0 (le_of_suc-le-suc l)))
        ∙ ap (λ (k : ℕ). best prio x (drop 1 (take k (x ∷ q)))) (sym (add-one (suc n)))

-- b is whether it goes before the head
module _ {p : Setup} {n place : ℕ} {q : List ℕ} (one : is_priority p ≡ true) (whole : length q ≡ 32) (few : n < 32)
    (H : Heads p place n q place) where
  first : (r : ℕ) → r ≤ n → before p.priority (at q place) (at q n) ≡ at q r → Heads p place (n + 1) q r
  first r i e =
      record {
        robin = λ f. absurd (cc);
        priority = λ f. best_more (H.priority f) (omega (arith, whole, few)) i e;
      }

  pub heads_joined : (b : Bool)
      → b ≡ ltb (at p.priority (at q place)) (at p.priority (at q n))
      || (eqb (at p.priority (at q place)) (at p.priority (at q n)) && ltb (at q n) (at q place))
      → Heads p place (n + 1) q (cond b n place)
  heads_joined true e = first n (omega arith) (before_overtakes p.priority (at q place) (at q n) refl refl true e)
  heads_joined false e =
      first place (omega (arith, heads_inside H))
      (before_overtakes p.priority (at q place) (at q n) refl refl false e)
