-- The law of jumping: while one task is served, n ticks are one service of n ticks. In order: idle ticks; a service
-- in two parts; the turn; the jump; the jump of a sound state. Said once, over the policy. Assumes nothing.
use Prim.Native.Nat.{ℕ, zero, suc, ◌+◌, ◌-◌, ◌≤◌, ◌<◌}
use native.Mathlib.Omega.{arith}
use native.Mathlib.Numerals.{one-add}
use native.Mathlib.Nat.{add_assoc, add-zero, not-suc-le-zero}
use mathlib.Core.Path.{◌≡◌, refl, sym, ap, ◌∙◌, subst}
use mathlib.Core.Bool.{false}
use mathlib.Core.List.{List, [], ◌∷◌}
use lib.ListN.{length}
use lib.Seq.{set-set}
use lib.Dec.{eqb}
use borrow.Author.Tests.{eqb-true, eqb-false, eq-eqb, ne_eqb}
use Rattle.lists.specs.Lists.{at}
use Rattle.lists.proofs.Testing.{tested, cond-false}
use Rattle.lists.proofs.Totals.{at_inside, at_set_same}
use Rattle.rule.specs.Setups.{is_priority}
use Rattle.rule.specs.State.{State}
use Rattle.rule.specs.Tick.{chosen, overdue, turn, used_more_lem, give, rest, serve, tick_on, tick, ticks}
use Rattle.rule.specs.declared.Setup.{Setup}
use Rattle.laws.specs.Sound.{Sound, Room}
use Rattle.laws.proofs.Served.{length_turn}

-- ---- idle ticks

rest_zero : (s : State) → rest s 0 ≡ s
unfolding rest
rest_zero s = simp add-zero

rest_rest : (s : State) (a b : ℕ) → rest (rest s a) b ≡ rest s (a + b)
unfolding rest
rest_rest s a b = simp add_assoc

tick_idle : (s : State) → s.queue ≡ [] → tick s ≡ rest s 1
unfolding tick tick_on
tick_idle s e = rw e

pub ticks_idle : (n : ℕ) (s : State) → s.queue ≡ [] → ticks n s ≡ rest s n
unfolding ticks rest
ticks_idle zero s e = sym (rest_zero s)
ticks_idle (suc n) s e = rw (tick_idle s e) (ticks_idle n (rest s 1) e ∙ rest_rest s 1 n ∙ ap (rest s) (one-add n))

-- ---- a service in two parts is one service

sub_sub : (o a b : ℕ) → o - a - b ≡ o - (a + b)
sub_sub o a b = omega arith

eqb_sub : (o a b : ℕ) → a ≤ o → eqb (o - a) b ≡ eqb o (a + b)
eqb_sub o a b h =
    tested (eqb o (a + b))
    (λ e. rw e (eq-eqb (o - a) b (omega (arith, eqb-true o (a + b) e))))
    (λ e. rw e (ne_eqb (o - a) b (λ g. eqb-false o (a + b) e (omega arith))))

used_more_add : (p : Setup) (u a b : ℕ) → used_more_lem p (used_more_lem p u a) b ≡ used_more_lem p u (a + b)
unfolding used_more_lem
used_more_add p u a b = tested (is_priority p) (λ e. simp e) (λ e. simp (e, add_assoc))

give_give : (s : State) (i a b : ℕ) → i < length s.owed → i < length s.given → a < at s.owed i
    → give (give s i a) i b ≡ give s i (a + b)
unfolding give
give_give s i a b ho hg h =
    simp (
      ne_eqb (at s.owed i) a (omega arith),
      at_set_same s.owed i (at s.owed i - a) ho,
      at_set_same s.given i (at s.given i + a) hg,
      eqb_sub (at s.owed i) a b (omega arith),
      set-set,
      sub_sub,
      add_assoc,
      used_more_add,
    )

give_queue : (s : State) (i m : ℕ) → m < at s.owed i → (give s i m).queue ≡ s.queue
unfolding give
give_queue s i m h = simp (ne_eqb (at s.owed i) m (omega arith))

give_room : (s : State) (i m n : ℕ) → m < at s.owed i → Room s.setup s.used (m + n)
    → Room s.setup (give s i m).used n
unfolding give
give_room s i m n h w e =
    let u : (give s i m).used ≡ s.used + m = simp (ne_eqb (at s.owed i) m (omega arith), used_more_robin) in
    omega (arith, w e)
  where
    used_more_robin : used_more_lem s.setup s.used m ≡ s.used + m
    used_more_robin = unfold used_more_lem in cond-false 0 (s.used + m) e

-- ---- the turn

turn_none : (s : State) → overdue s.setup s.used ≡ false → turn s ≡ s
unfolding turn
turn_none s e = simp e

room_none : (s : State) → Room s.setup s.used 1 → overdue s.setup s.used ≡ false
unfolding overdue
room_none s w =
    tested (is_priority s.setup)
    (λ e. simp e)
    (λ e. simp e (ne_eqb s.used s.setup.slice (omega (arith, w e))))

-- ---- the jump

tick_served : (s : State) → 0 < length s.queue → tick s ≡ serve (turn s)
unfolding tick tick_on
tick_served s h = on s.queue h
  where
    on : (q : List ℕ) → 0 < length q → tick_on s q ≡ serve (turn s)
    on [] h = absurd (not-suc-le-zero h)
    on (k ∷ t) h = refl

module _ (s : State) (i : ℕ) (ho : i < length s.owed) (hg : i < length s.given) (some : 0 < length s.queue)
    (serves : chosen s.setup s.queue ≡ i) where
  -- one tick more after m, of which none was the last
  tick_give : (m : ℕ) → m < at s.owed i → Room s.setup s.used (m + 1) → tick (give s i m) ≡ give s i (m + 1)
  unfolding give serve
  tick_give m h w =
      let g = give s i m in
      let q : g.queue ≡ s.queue = give_queue s i m h in
      tick_served g (rw q some)
      ∙ ap serve (turn_none g (room_none g (give_room s i m 1 h w)))
      ∙ ap (λ (k : ℕ). give g k 1) (ap (chosen s.setup) q ∙ serves)
      ∙ give_give s i m 1 ho hg h

  ticks_give : (n m : ℕ) → 0 < m → m + n ≤ at s.owed i → Room s.setup s.used (m + n)
      → ticks n (give s i m) ≡ give s i (m + n)
  unfolding ticks
  ticks_give zero m p h w = rw (add-zero m)
  ticks_give (suc n) m p h w =
      rw (tick_give m (omega arith) (λ e. omega (arith, w e)))
      (ticks_give n (m + 1) (omega arith) (omega arith) (λ e. omega (arith, w e)) ∙ ap (give s i) (omega arith))

-- the task that the next tick goes to
abbrev pub next : State → ℕ
next s = chosen s.setup (turn s).queue

-- n ticks are the turn and then one service, to the task that is chosen after the turn
jump : (s : State) (n : ℕ) → 0 < length s.queue → next s < length s.owed → next s < length s.given → 0 < n
    → n ≤ at s.owed (next s) → Room s.setup (turn s).used n → ticks n s ≡ give (turn s) (next s) n
unfolding ticks turn serve
jump s zero some ho hg p h w = absurd (not-suc-le-zero p)
jump s (suc n) some ho hg p h w =
    let l : length (turn s).queue ≡ length s.queue = length_turn s in
    ap (ticks n) (tick_served s some)
    ∙ ticks_give (turn s) (next s) ho hg (rw l some) refl n 1 (omega arith) (rw (one-add n) h) (rw (one-add n) w)
    ∙ ap (give (turn s) (next s)) (one-add n)

-- ---- of a sound state

-- t is s after the turn, and gives its chosen task i some ticks in a row: that is s as many ticks later
pub ticks_jump : (s t : State) → Sound s → 0 < length s.queue → t ≡ turn s → (i n : ℕ)
    → i ≡ chosen t.setup t.queue → 0 < n → n ≤ at t.owed i → Room t.setup t.used n
    → ticks n s ≡ give t i n
ticks_jump s t S some e = subst Jumps (sym e) from_turn
  where
    Jumps : State → Type 0
    Jumps t = (i n : ℕ) → i ≡ chosen t.setup t.queue → 0 < n → n ≤ at t.owed i → Room t.setup t.used n
        → ticks n s ≡ give t i n

    from_turn : Jumps (turn s)
    from_turn i n e p h w =
        unfold turn in
        let b : i < length s.owed = at_inside s.owed i (omega arith) in
        let g : i < length s.given = omega (arith, S.owed32, S.given32) in
        rw e (jump s n some (rw e at b) (rw e at g) p (rw e at h) w)
