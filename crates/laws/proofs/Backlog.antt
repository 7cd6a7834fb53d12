-- Demand 3: what is owed, idle and given is what the accepted requests and the clock say, under either policy. In
-- order: sums with one request more, the count a tick on, ticks, calls, the theorem. Assumes nothing.
use Prim.Native.Nat.{ℕ, zero, suc, ◌+◌, ◌-◌, ◌≤◌, ◌<◌}
use native.Mathlib.Numerals.{add-one}
use native.Mathlib.Omega.{arith}
use mathlib.Core.Path.{◌≡◌, refl, sym, ap, subst, ◌∙◌}
use mathlib.Core.Logic.{⊎_elim}
use mathlib.Core.Bool.{cond}
use mathlib.Core.List.{List, [], ◌∷◌, ◌++◌, append_assoc, append-nil}
use lib.Dec.{eqb}
use lib.ListN.{length}
use borrow.Author.Tests.{eqb-true, eq-eqb, ne_eqb}
use Rattle.lists.specs.Lists.{at, total}
use Rattle.lists.proofs.Testing.{tested, equal-or, cond-true, cond-false}
use Rattle.lists.proofs.Totals.{at_replicate, at_set_same, at_set_other, total_set}
use Rattle.rule.specs.Setups.{setup_refusal_lem}
use Rattle.rule.specs.State.{State, fresh}
use Rattle.rule.specs.Tick.{rest, tick, ticks}
use Rattle.rule.specs.Calls.{moved, drained, opened, Call, request, advance, drain, refusal, effect, call, calls}
use Rattle.rule.specs.declared.Setup.{Setup}
use Rattle.laws.specs.Sound.{Sound}
use Rattle.laws.specs.Accepted.{Requested}
use Rattle.laws.specs.Backlog.{Ask, time_of, task_of, amount_of, sum_by, sum_at, backlog, empty_ticks, asks}
use Rattle.laws.specs.Backlog.{accepted, Accounted}
use Rattle.laws.proofs.Ticks.{moved_clock}
use Rattle.laws.proofs.Served.{Served, ticked}
use Rattle.laws.proofs.Accepted.{request_accepted}
use Rattle.laws.proofs.Sound.{tick_sound, owed_total, owed_at, given_at}
use Rattle.laws.proofs.Made.{none_owed, call_sound, fresh_sound}

-- ---- one request more

pub sum_by_append : (by f : Ask → ℕ) (l ds : List Ask) (n : ℕ)
    → sum_by by f (l ++ ds) n ≡ sum_by by f l n + sum_by by f ds n
unfolding sum_by
sum_by_append by f [] ds n = omega arith
sum_by_append by f (q ∷ l) ds n = omega (arith, sum_by_append by f l ds n)

module _ (by f : Ask → ℕ) (l : List Ask) (q : Ask) (n : ℕ) where
  sum_by_same : by q ≡ n → sum_by by f (l ++ q ∷ []) n ≡ sum_by by f l n + f q
  unfolding sum_by
  sum_by_same e = omega (arith, sum_by_append by f l (q ∷ []) n, cond-true (f q) 0 (eq-eqb (by q) n e))

  sum_by_other : (by q ≡ n → ⊥) → sum_by by f (l ++ q ∷ []) n ≡ sum_by by f l n
  unfolding sum_by
  sum_by_other e = omega (arith, sum_by_append by f l (q ∷ []) n, cond-false (f q) 0 (ne_eqb (by q) n e))

module _ (l : List Ask) (q : Ask) where
  backlog_before : (t : ℕ) → t < q.time → backlog (l ++ q ∷ []) t ≡ backlog l t
  unfolding backlog
  backlog_before zero h = sum_by_other time_of amount_of l q 0 (λ e. omega arith)
  backlog_before (suc t) h =
      omega (arith, backlog_before t (omega arith), sum_by_other time_of amount_of l q (suc t) (λ e. omega arith))

  backlog_then : (t : ℕ) → t ≡ q.time → backlog (l ++ q ∷ []) t ≡ backlog l t + q.amount
  unfolding backlog
  backlog_then zero e = sum_by_same time_of amount_of l q 0 (sym e)
  backlog_then (suc t) e = omega (arith, backlog_before t (omega arith), sum_by_same time_of amount_of l q (suc t) (sym e))

  empty_before : (t : ℕ) → t ≤ q.time → empty_ticks (l ++ q ∷ []) t ≡ empty_ticks l t
  unfolding empty_ticks
  empty_before zero h = refl
  empty_before (suc t) h =
      let same : backlog (l ++ q ∷ []) t ≡ backlog l t = backlog_before t (omega arith) in
      omega (arith, ap (λ (n : ℕ). cond {A = ℕ} (eqb n 0) 1 0) same, empty_before t (omega arith))

-- ---- one tick on, where nothing is added at its end

backlog_next : (l : List Ask) (t : ℕ) → sum_at amount_of l (suc t) ≡ 0 → backlog l (suc t) ≡ backlog l t - 1
unfolding backlog
backlog_next l t e = omega arith

-- ---- ticks

-- what is carried from call to call
record Counted (l : List Ask) (s : State) : Type 0 where
  sound : Sound s
  counts : Accounted l s
  none_later : (t : ℕ) → s.clock < t → sum_at amount_of l t ≡ 0

-- one tick on, which took one of the ticks owed or was idle
module _ (l : List Ask) (s r : State) (h : Counted l s) (g : Sound r) (c : r.clock ≡ suc s.clock) where
  idle_next : empty_ticks l (suc s.clock) ≡ empty_ticks l s.clock + cond (eqb (backlog l s.clock) 0) 1 0
  idle_next = unfold empty_ticks in refl

  counted_next : total r.owed ≡ total s.owed - 1
      → r.idle ≡ s.idle + cond (eqb (total s.owed) 0) 1 0
      → ((k : ℕ) → at r.given k + at r.owed k ≡ at s.given k + at s.owed k) → Counted l r
  counted_next o i each =
      record {
        sound = g;
        counts =
            record {
              owed = omega (arith, h.counts.owed, ap (backlog l) c, backlog_next l s.clock none);
              idle = i ∙ rw (h.counts.owed, h.counts.idle) (sym idle_next) ∙ ap (empty_ticks l) (sym c);
              each = λ k. h.counts.each k ∙ sym (each k);
            };
        none_later = λ t d. h.none_later t (omega arith);
      }
    where
      none : sum_at amount_of l (suc s.clock) ≡ 0
      none = h.none_later (suc s.clock) (omega arith)

rest_counted : (l : List Ask) (s : State) → s.queue ≡ [] → Counted l s → Sound (rest s 1) → Counted l (rest s 1)
unfolding rest
rest_counted l s e h g =
    let z : total s.owed ≡ 0 = none_owed s h.sound e in
    counted_next l s (rest s 1) h g (add-one s.clock) (omega arith)
    (ap (λ (n : ℕ). s.idle + n) (sym (cond-true 1 0 (eq-eqb (total s.owed) 0 z))))
    (λ k. refl)

served_counted : (l : List Ask) (s r : State) (i : ℕ) → Served s r i → Counted l s → Sound r → Counted l r
served_counted l s r i v h g =
    let less : total r.owed + 1 ≡ total s.owed = owed_total s r i h.sound v in
    counted_next l s r h g (omega (arith, v.clock)) (omega arith)
    (omega (arith, v.idle, cond-false {A = ℕ} 1 0 (ne_eqb (total s.owed) 0 (λ e. omega arith))))
    (λ k. omega (arith, owed_at s r i h.sound v k, given_at s r i h.sound v k))

tick_counted : (l : List Ask) (s : State) → Counted l s → Counted l (tick s)
tick_counted l s h =
    let g : Sound (tick s) = tick_sound s h.sound in
    ⊎_elim
    (λ w. subst (Counted l) (sym w.1) (rest_counted l s w.0 h (subst Sound w.1 g)))
    (λ w. served_counted l s (tick s) w.0 w.1 h g)
    (ticked s)

ticks_counted : (l : List Ask) (n : ℕ) (s : State) → Counted l s → Counted l (ticks n s)
unfolding ticks
ticks_counted l zero s h = h
ticks_counted l (suc n) s h = ticks_counted l n (tick s) (tick_counted l s h)

-- ---- calls

opened_counted : (l : List Ask) (s : State) (t k a : ℕ) → s.clock ≡ t → k < 32 → at s.owed k ≡ 0 → Counted l s
    → Sound (opened s k a) → Counted (l ++ record { time = t; task = k; amount = a } ∷ []) (opened s k a)
unfolding opened
opened_counted l s t k a c i z h g =
    let q : Ask = record { time = t; task = k; amount = a } in
    let inside : k < length s.owed = omega (arith, h.sound.owed32) in
    record {
      sound = g;
      counts =
          record {
            owed = omega (arith, h.counts.owed, total_set s.owed k a inside, backlog_then l q s.clock c);
            idle = omega (arith, h.counts.idle, empty_before l q s.clock (omega arith));
            each = λ j.
                equal-or k j
                (λ e. rw (← e)
                (omega (
                  arith,
                  sum_by_same task_of amount_of l q k refl,
                  h.counts.each k,
                  at_set_same s.owed k a inside,
                )))
                (λ n.
                omega (
                  arith,
                  sum_by_other task_of amount_of l q j n,
                  h.counts.each j,
                  at_set_other s.owed k a j (λ e. n (sym e)),
                ));
          };
      none_later = λ u d. omega (arith, sum_by_other time_of amount_of l q u (λ e. omega arith), h.none_later u d);
    }

request_counted : (l : List Ask) (s : State) (t k a : ℕ) → Requested s t k a → Counted l s
    → Sound (opened (moved s t) k a)
    → Counted (l ++ record { time = t; task = k; amount = a } ∷ []) (opened (moved s t) k a)
unfolding moved
request_counted l s t k a q h g =
    opened_counted l (moved s t) t k a (moved_clock s t q.later) (omega (arith, q.task, h.sound.few)) q.closed
    (ticks_counted l (t - s.clock) s h) g

effect_counted : (l : List Ask) (s : State) (c : Call) → Counted l s → refusal s c ≡ 0 → Sound (effect s c)
    → Counted (l ++ asks s c) (effect s c)
unfolding effect refusal asks moved drained
effect_counted l s (request t k a) h e g = request_counted l s t k a (request_accepted s t k a e) h g
effect_counted l s (advance t) h e g = rw append-nil (ticks_counted l (t - s.clock) s h)
effect_counted l s drain h e g = rw append-nil (ticks_counted l (total s.owed) s h)

call_counted : (l : List Ask) (s : State) (c : Call) → Counted l s
    → Counted (l ++ cond (eqb (refusal s c) 0) (asks s c) []) (call s c)
unfolding call
call_counted l s c h =
    tested (eqb (refusal s c) 0)
    (λ e. rw e
    (effect_counted l s c h (eqb-true (refusal s c) 0 e)
    (rw (cond-true (effect s c) s e) at (call_sound s c h.sound))))
    (λ e. rw (e, append-nil) h)

calls_counted : (l : List Ask) (s : State) (cs : List Call) → Counted l s → Counted (l ++ accepted s cs) (calls s cs)
unfolding accepted calls
calls_counted l s [] h = rw append-nil h
calls_counted l s (c ∷ cs) h =
    rw (← append_assoc)
    (calls_counted (l ++ cond (eqb (refusal s c) 0) (asks s c) []) (call s c) cs (call_counted l s c h))

fresh_counted : (p : Setup) → setup_refusal_lem p ≡ 0 → Counted [] (fresh p)
unfolding sum_by backlog empty_ticks total
fresh_counted p e =
    record {
      sound = fresh_sound p e;
      counts =
          record {
            owed = refl;
            idle = refl;
            each = λ k. omega (arith, at_replicate 32 k);
          };
      none_later = λ t d. refl;
    }

-- ---- the theorem: any setup that is accepted, any sequence of calls, refused ones among them

pub demand3 : (p : Setup) → setup_refusal_lem p ≡ 0 → (cs : List Call)
    → Accounted (accepted (fresh p) cs) (calls (fresh p) cs)
demand3 p e cs =
    (calls_counted [] (fresh p) cs (fresh_counted p e)).counts
