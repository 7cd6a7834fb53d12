-- The reading of the next completion names the first one, and only it (`next_exact`). In order: the search in the
-- column of completions, a tick, ticks, the reading. Assumes nothing.
use Prim.Native.Nat.{ℕ, zero, suc, ◌+◌, ◌-◌, ◌≤◌, ◌<◌, min}
use native.Mathlib.Nat.{le_refl}
use native.Mathlib.Omega.{arith}
use mathlib.Core.Path.{◌≡◌, refl, ap, ◌∙◌}
use mathlib.Core.Logic.{◌⊎◌, inl, inr, ⊎_elim, ◌↔◌}
use mathlib.Core.Bool.{true, false}
use mathlib.Core.List.{List, [], ◌∷◌}
use lib.ListN.{length}
use borrow.Author.Tests.{eqb-true, eqb-false, eq-eqb, ne_eqb}
use Rattle.lists.specs.Lists.{at, total}
use Rattle.lists.proofs.Testing.{tested, equal-or, cond-true, cond-false}
use Rattle.lists.proofs.Counting.{same_refl, same_other}
use Rattle.lists.proofs.Totals.{at_le_total, total_zero}
use Rattle.rule.specs.State.{State}
use Rattle.rule.specs.Tick.{last, rest, tick, ticks}
use Rattle.rule.specs.Calls.{moved, Made}
use Rattle.rule.specs.Readings.{nothing, done, done_at, done_within, next_done_lem}
use Rattle.laws.specs.Sound.{Sound}
use Rattle.laws.specs.Next.{DoneNext}
use Rattle.laws.proofs.Ticks.{tick_clock}
use Rattle.laws.proofs.Served.{Served, ticked}
use Rattle.laws.proofs.Sound.{served_owed, served_inside, owed_at, done_last, done_more, done_other, tick_sound}
use Rattle.laws.proofs.Made.{made_sound}
use Rattle.laws.proofs.Drains.{tick_owed, ticks_owed}
use Rattle.laws.proofs.Closing.{tick_opened, DoneIn, done_in}

-- ---- the search in the column of completions

done_at_none : (t i : ℕ) (l : List ℕ) → ((j : ℕ) → j < length l → at l j ≡ t → ⊥) → done_at t i l ≡ nothing
unfolding done_at
done_at_none t i [] h = refl
done_at_none t i (d ∷ ds) h =
    cond-false _ _ (ne_eqb d t (λ e. h 0 (omega arith) e))
    ∙ done_at_none t (suc i) ds (λ j b e. h (suc j) (omega arith) e)

done_at_some : (t i j : ℕ) (l : List ℕ) → j < length l → at l j ≡ t → ((m : ℕ) → m < j → at l m ≡ t → ⊥)
    → done_at t i l ≡ done (i + j) t
unfolding done_at
done_at_some t i j [] b e h = absurd (omega arith)
done_at_some t i zero (d ∷ ds) b e h = cond-true _ _ (eq-eqb d t e) ∙ ap (λ (n : ℕ). done n t) (omega arith)
done_at_some t i (suc j) (d ∷ ds) b e h =
    cond-false _ _ (ne_eqb d t (λ f. h 0 (omega arith) f))
    ∙ done_at_some t (suc i) j ds (omega arith) e (λ m g f. h (suc m) (omega arith) f)
    ∙ ap (λ (n : ℕ). done n t) (omega arith)

-- ---- a tick: nobody is done, or one task is

record Quiet (s : State) : Type 0 where
  finds : done_at (tick s).clock 0 (tick s).done ≡ nothing
  stays : (k : ℕ) → 0 < at s.owed k → 0 < at (tick s).owed k

record Ends (s : State) (i : ℕ) : Type 0 where
  finds : done_at (tick s).clock 0 (tick s).done ≡ done i (tick s).clock
  opened : 0 < at s.owed i
  closed : at (tick s).owed i ≡ 0
  other : (k : ℕ) → (k ≡ i → ⊥) → at (tick s).owed k ≡ at s.owed k

module _ (s : State) (h : Sound s) where
  finds_none : (tick s).done ≡ s.done → done_at (tick s).clock 0 (tick s).done ≡ nothing
  finds_none e =
      done_at_none (tick s).clock 0 (tick s).done
      (λ j b f. omega (arith, ap (λ (l : List ℕ). at l j) e, h.past j, tick_clock s))

  finds_one : (i : ℕ) → Served s (tick s) i → last s i 1 ≡ true
      → done_at (tick s).clock 0 (tick s).done ≡ done i (tick s).clock
  finds_one i v l =
      done_at_some (tick s).clock 0 i (tick s).done
      (omega (arith, served_inside s (tick s) i h v, (tick_sound s h).done32))
      (omega (arith, done_last s (tick s) i h v l, tick_clock s))
      (λ m g f. omega (arith, done_other s (tick s) i h v m (λ e. omega arith), h.past m, tick_clock s))
      ∙ ap (λ (n : ℕ). done n (tick s).clock) (omega arith)

  served_quiet : (i : ℕ) → Served s (tick s) i → last s i 1 ≡ false → Quiet s
  served_quiet i v l =
      record {
        finds = finds_none (done_more s (tick s) i h v l);
        stays = λ k o.
            equal-or k i
            (λ e. rw e
            (omega (
              arith,
              owed_at s (tick s) i h v i,
              same_refl i,
              served_owed s (tick s) i h v,
              eqb-false (at s.owed i) 1 l,
            )))
            (λ n. omega (arith, owed_at s (tick s) i h v k, same_other k i n));
      }

  served_ends : (i : ℕ) → Served s (tick s) i → last s i 1 ≡ true → Ends s i
  served_ends i v l =
      record {
        finds = finds_one i v l;
        opened = served_owed s (tick s) i h v;
        closed = omega (arith, owed_at s (tick s) i h v i, same_refl i, eqb-true (at s.owed i) 1 l);
        other = λ k n. omega (arith, owed_at s (tick s) i h v k, same_other k i n);
      }

  tick_done : Quiet s ⊎ ((i : ℕ) × Ends s i)
  unfolding rest
  tick_done =
      ⊎_elim
      (λ w. inl record {
        finds = finds_none (ap (λ (r : State). r.done) w.1);
        stays = λ k o. omega (arith, ap (λ (r : State). at r.owed k) w.1);
      })
      (λ w.
      tested (last s w.0 1)
      (λ l. inr (w.0, served_ends w.0 w.1 l))
      (λ l. inl (served_quiet w.0 w.1 l)))
      (ticked s)

-- ---- ticks

module _ (s : State) (k t : ℕ) (h : Sound s) where
  -- from the tick to s
  next_now : (i : ℕ) → Ends s i → i ≡ k → (tick s).clock ≡ t → DoneNext s k t
  unfolding ticks
  next_now i w e c =
      let one : t - s.clock ≡ 1 = omega (arith, tick_clock s) in
      record {
        opened = rw (← e) w.opened;
        later = omega (arith, tick_clock s);
        done = rw (one, ← e) w.closed;
        first = λ m b j o. only m (omega arith) j o;
      }
    where
      only : (m : ℕ) → m < 1 → (j : ℕ) → 0 < at s.owed j → 0 < at (ticks m s).owed j
      only zero b j o = o
      only (suc m) b j o = absurd (omega arith)

  next_later : Quiet s → DoneNext (tick s) k t → DoneNext s k t
  unfolding ticks
  next_later q w =
      let more : t - s.clock ≡ suc (t - (tick s).clock) = omega (arith, w.later, tick_clock s) in
      record {
        opened = tick_opened s k h w.opened;
        later = omega (arith, w.later, tick_clock s);
        done = rw more w.done;
        first = λ m b j o. early m (omega arith) j o;
      }
    where
      early : (m : ℕ) → m < suc (t - (tick s).clock) → (j : ℕ) → 0 < at s.owed j → 0 < at (ticks m s).owed j
      early zero b j o = o
      early (suc m) b j o = w.first m (omega arith) j (q.stays j o)

  -- from s to the tick
  next_once : (i : ℕ) → Ends s i → DoneNext s k t → (k ≡ i) × ((tick s).clock ≡ t)
  unfolding ticks
  next_once i e w =
      let soon : t - s.clock ≡ 1 =
      equal-or (t - s.clock) 1 (λ f. f)
      (λ n. absurd (omega (arith, e.closed, w.later, w.first 1 (omega (arith, w.later)) i e.opened))) in (
        equal-or k i (λ f. f) (λ n. absurd (omega (arith, w.opened, e.other k n, rw soon at w.done))),
        omega (arith, w.later, tick_clock s),
      )

  next_after : Quiet s → DoneNext s k t → DoneNext (tick s) k t
  unfolding ticks
  next_after q w =
      let far : 1 < t - s.clock =
      equal-or (t - s.clock) 1
      (λ f. absurd (omega (arith, rw f at w.done, q.stays k w.opened)))
      (λ n. omega (arith, w.later)) in
      let more : t - s.clock ≡ suc (t - (tick s).clock) = omega (arith, tick_clock s) in
      record {
        opened = q.stays k w.opened;
        later = omega (arith, tick_clock s);
        done = rw more at w.done;
        first = λ m b j o. w.first (suc m) (omega arith) j (tick_opened s j h o);
      }

within_done : (n : ℕ) (s : State) (k t : ℕ) → Sound s → done_within n s ≡ done k t → DoneNext s k t
unfolding done_within
within_done zero s k t h e = absurd (let z : ◌≡◌ {A = ℕ} 0 1 = cc in omega arith)
within_done (suc n) s k t h e =
    ⊎_elim
    (λ q. next_later s k t h q (within_done n (tick s) k t (tick_sound s h) (rw q.finds at e)))
    (λ w.
    let f : done w.0 (tick s).clock ≡ done k t = rw w.1.finds at e in
    let i : w.0 ≡ k = cc in
    let c : (tick s).clock ≡ t = cc in
    next_now s k t h w.0 w.1 i c)
    (tick_done s h)

done_within_lem : (n : ℕ) (s : State) (k t : ℕ) → Sound s → t - s.clock ≤ n → DoneNext s k t → done_within n s ≡ done k t
unfolding done_within
done_within_lem zero s k t h b w = absurd (omega (arith, w.later))
done_within_lem (suc n) s k t h b w =
    ⊎_elim
    (λ q.
    rw q.finds
    (done_within_lem n (tick s) k t (tick_sound s h) (omega (arith, tick_clock s)) (next_after s k t h q w)))
    (λ v.
    let e = next_once s k t h v.0 v.1 w in
    rw (v.1.finds, ← e.0, e.1))
    (tick_done s h)

within_nothing : (n : ℕ) (s : State) → Sound s → total s.owed ≤ n → done_within n s ≡ nothing → total s.owed ≡ 0
unfolding done_within
within_nothing zero s h b e = omega arith
within_nothing (suc n) s h b e =
    ⊎_elim
    (λ q.
    let z = within_nothing n (tick s) (tick_sound s h) (omega (arith, tick_owed s h)) (rw q.finds at e) in
    total_zero s.owed
    (λ k.
    equal-or (at s.owed k) 0 (λ f. f)
    (λ m. absurd (omega (arith, z, q.stays k (omega arith), at_le_total (tick s).owed k)))))
    (λ w. absurd (let z : ◌≡◌ {A = ℕ} 0 1 = cc (rw w.1.finds at e) in omega arith))
    (tick_done s h)

-- ---- the reading

-- it is there in time: the task is open until the tick before
next_soon : (s : State) (k t : ℕ) → Sound s → DoneNext s k t → t - s.clock ≤ total s.owed
next_soon s k t h w =
    let n : ℕ = t - s.clock - 1 in
    omega (
      arith,
      w.later,
      w.first n (omega (arith, w.later)) k w.opened,
      at_le_total (ticks n s).owed k,
      ticks_owed n s h,
    )

pub next_done_lem_lem : (s : State) (k t : ℕ) → Sound s → next_done_lem s ≡ done k t → DoneNext s k t
unfolding next_done_lem
next_done_lem_lem s k t h e = within_done (total s.owed) s k t h e

pub done_next : (s : State) (k t : ℕ) → Sound s → DoneNext s k t → next_done_lem s ≡ done k t
unfolding next_done_lem
done_next s k t h w = done_within_lem (total s.owed) s k t h (next_soon s k t h w) w

pub next_exact : (s : State) (k t : ℕ) → Made s → (next_done_lem s ≡ done k t) ↔ DoneNext s k t
next_exact s k t m = (next_done_lem_lem s k t (made_sound s m), done_next s k t (made_sound s m))

-- "or says that nothing is open"
pub next_nothing : (s : State) → Sound s → (next_done_lem s ≡ nothing) ↔ (total s.owed ≡ 0)
unfolding next_done_lem done_within
next_nothing s h = (
  λ e. within_nothing (total s.owed) s h (le_refl (total s.owed)) e,
  λ e. ap (λ (n : ℕ). done_within n s) e,
)

-- the task's latest completion at that time is that time
pub next_completes : (s : State) (k t : ℕ) → Sound s → DoneNext s k t → at (moved s t).done k ≡ t
unfolding moved
next_completes s k t h w =
    let d : DoneIn s k (t - s.clock) = done_in (t - s.clock) s k h w.opened w.done in
    let late : t - s.clock ≤ d.m =
    equal-or (min d.m (t - s.clock)) (t - s.clock) (λ e. omega arith)
    (λ n. absurd (omega (arith, d.then, w.first d.m (omega arith) k w.opened))) in
    omega (arith, d.reads, d.soon, w.later)
