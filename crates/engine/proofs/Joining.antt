-- A task that joins the queue. In order: the queue from place 0 on; a task that joins it. Assumes nothing.
use Prim.Native.Nat.{ℕ, ◌+◌, ◌-◌, ◌≤◌, ◌<◌, zero-le}
use native.Mathlib.Omega.{arith}
use mathlib.Core.Path.{◌≡◌, sym, ap, ◌∙◌}
use mathlib.Core.Bool.{Bool, true, false, cond}
use mathlib.Core.List.{List, ◌++◌}
use lib.ListN.{length, set, drop, length-set}
use lib.Dec.{ltb}
use Rattle.lists.specs.Lists.{at}
use Rattle.lists.proofs.Testing.{tested, cond_same}
use Rattle.lists.proofs.Places.{below_append, below_drop, below_set}
use Rattle.rule.specs.Setups.{is_priority}
use Rattle.rule.specs.Tick.{chosen}
use Rattle.rule.specs.Calls.{opened}
use Rattle.rule.specs.View.{Clear}
use Rattle.rule.specs.declared.Setup.{Setup}
use Rattle.line.specs.Places.{queue_at, Tasks, Heads}
use Rattle.legs.specs.Parts.{with_queue, Kept}
use Rattle.legs.specs.declared.Cursor.{Cursor}
use Rattle.engine.specs.Joining.{straight_to, Opens}
use Rattle.lists.proofs.Places.{clear_set}
use Rattle.line.proofs.Heads.{chosen_robin, heads_inside, heads_serves, serves_heads, heads_set}
use Rattle.line.proofs.Queues.{drop_straight, length_straight, straight_priority}
use Rattle.line.proofs.Queues.{below_queue_at, queue_at_joined}

-- ---- the queue from place 0 on

module _ {p : Setup} {c : Cursor} {q : List ℕ} (K : Kept p c q) {q' : List ℕ}
    (e : q' ≡ queue_at p c.head c.queued q ++ drop c.queued q) where
  room : c.queued ≤ length q
  room = omega (arith, K.tidy.fits, K.tidy.whole)

  pub straight_tidy : Clear c.queued q'
  straight_tidy =
      record {
        fits = K.tidy.fits;
        whole = length_straight p c.head c.queued q room e ∙ K.tidy.whole;
        clear = drop_straight p c.head c.queued q room e ∙ K.tidy.clear;
      }

  pub straight_tasks : {task : ℕ} → c.queued < 32 → task < 32 → Tasks q → Tasks (set q' c.queued task)
  straight_tasks {task} l b t =
      below_set 32 c.queued task q' (omega (arith, straight_tidy.whole)) b
      (rw e
      (below_append 32 (queue_at p c.head c.queued q) (drop c.queued q)
      (below_queue_at p 32 c.head c.queued q t)
      (below_drop 32 c.queued q t)))

  straight_serves : 0 < c.queued
      → at q' (straight_to p c).head ≡ chosen p (queue_at p (straight_to p c).head c.queued q')
  unfolding straight_to
  straight_serves y =
      tested (is_priority p)
      (λ f. rw (f, straight_priority p c.head c.queued q room e f) (K.serves y))
      (λ f. rw f (sym (chosen_robin p 0 c.queued q' f y (omega (arith, straight_tidy.whole, K.tidy.fits)))))

  pub straight_heads : {r : Cursor} (task : ℕ) → r ≡ straight_to p c
      → Heads p r.head c.queued (set q' c.queued task) r.head
  unfolding straight_to
  straight_heads task er =
      rw er
      (heads_set c.queued task
      (serves_heads c.queued (inside (is_priority p))
      (omega (arith, straight_tidy.whole, K.tidy.fits))
      straight_serves))
    where
      inside : (b : Bool) → cond b c.head 0 ≤ c.queued - 1
      inside true = K.inside
      inside false = zero-le

  -- ---- a task joins it

  pub joined_opens : {r : Cursor} {task amount : ℕ} {o : List ℕ} {head : ℕ} → r ≡ straight_to p c → c.queued < 32
      → Heads p r.head (c.queued + 1) (set q' c.queued task) head
      → Opens p c task amount q o (record c { queued = c.queued + 1; head = head })
      (set q' c.queued task) (set o task amount)
  unfolding straight_to
  joined_opens {task = task} {amount = amount} {o = o} {head = head} er b H =
      record {
        kept =
            record {
              tidy = record { fits = omega arith; whole = whole; clear = clear_set c.queued task q' b straight_tidy.clear };
              inside = heads_inside H;
              serves = λ y. heads_serves H y (omega (arith, whole));
            };
        shown = λ g d.
            unfold opened in
            ap (λ (x : List ℕ). with_queue p c x (set o task amount) g d)
            (queue_at_joined p c.head c.queued q room e task head (omega (arith, K.tidy.whole)) back);
      }
    where
      whole : length (set q' c.queued task) ≡ 32
      whole = length-set q' c.queued task ∙ straight_tidy.whole

      back : is_priority p ≡ false → head ≡ 0
      back f = H.robin f ∙ ap (λ (x : Cursor). cond (ltb x.head (c.queued + 1)) x.head 0) er
          ∙ rw f (cond_same (ltb 0 (c.queued + 1)) 0)
