-- What a tick does, whatever the policy: it is idle, or one open task is served (`ticked`). What is said of both
-- policies rests on this file and not on who is chosen. In order: the turn, the service, the tick. Assumes nothing.
use Prim.Native.Nat.{ℕ, ◌+◌, ◌-◌, ◌≤◌, ◌<◌}
use native.Mathlib.Omega.{arith}
use mathlib.Core.Path.{◌≡◌, refl, sym, ap, ◌∙◌, subst}
use mathlib.Core.Logic.{◌⊎◌, inl, inr}
use mathlib.Core.Bool.{false, cond}
use mathlib.Core.List.{List, [], ◌∷◌}
use lib.ListN.{set, length, length-append}
use lib.Dec.{eqb}
use borrow.Author.Tests.{eqb-false}
use Rattle.lists.specs.Lists.{at, times, without}
use Rattle.lists.proofs.Testing.{tested, equal-or, cond_both}
use Rattle.lists.proofs.Counting.{times_cons, times_nil, times_append, times_without_same, times_without_other}
use Rattle.rule.specs.Setups.{is_priority}
use Rattle.rule.specs.State.{State}
use Rattle.rule.specs.Tick.{chosen, overdue, head_back, turn, used_more_lem, last, give, rest, serve, tick_on, tick}
use Rattle.rule.specs.declared.Setup.{Setup}
use Rattle.laws.specs.Sound.{Sliced, Room}
use Rattle.laws.proofs.Foremost.{chosen_member}

-- The state r comes of the state s by a tick that task i got.
pub record Served (s r : State) (i : ℕ) : Type 0 where
  pub is_open_lem : 0 < times i s.queue
  pub setup : r.setup ≡ s.setup
  pub clock : r.clock ≡ s.clock + 1
  pub idle : r.idle ≡ s.idle
  pub sliced : is_priority s.setup ≡ false → Sliced s.setup s.used → Sliced s.setup r.used
  pub queue : (k : ℕ)
      → times k r.queue ≡ cond (last s i 1) (times k (without i s.queue)) (times k s.queue)
  pub owed : r.owed ≡ set s.owed i (at s.owed i - 1)
  pub given : r.given ≡ set s.given i (at s.given i + 1)
  pub done : r.done ≡ cond (last s i 1) (set s.done i (s.clock + 1)) s.done

-- ---- the turn

times_head_back : (k : ℕ) (q : List ℕ) → times k (head_back q) ≡ times k q
unfolding head_back
times_head_back k [] = refl
times_head_back k (h ∷ t) =
    omega (arith, times_append k t (h ∷ []), times_cons k h t, times_cons k h [], times_nil k)

length_head_back : (q : List ℕ) → length (head_back q) ≡ length q
unfolding head_back
length_head_back [] = refl
length_head_back (h ∷ t) = omega (arith, length-append t (h ∷ []))

pub times_turn : (s : State) (k : ℕ) → times k (turn s).queue ≡ times k s.queue
unfolding turn
times_turn s k =
    cond_both (λ (q : List ℕ). times k q ≡ times k s.queue) (overdue s.setup s.used) (head_back s.queue)
    s.queue (times_head_back k s.queue) refl

pub length_turn : (s : State) → length (turn s).queue ≡ length s.queue
unfolding turn
length_turn s =
    cond_both (λ (q : List ℕ). length q ≡ length s.queue) (overdue s.setup s.used) (head_back s.queue)
    s.queue (length_head_back s.queue) refl

-- after the turn some of the slice is left
pub overdue_room : (p : Setup) (used : ℕ) → (is_priority p ≡ false → Sliced p used)
    → Room p (cond (overdue p used) 0 used) 1
unfolding overdue
overdue_room p used h e =
    tested (eqb used p.slice)
    (λ f. rw (e, f) (omega (arith, (h e).some)))
    (λ f. rw (e, f) (omega (arith, (h e).inside, eqb-false used p.slice f)))

-- ---- the service

times_without : (k i : ℕ) (xs ys : List ℕ) → times k xs ≡ times k ys → times k (without i xs) ≡ times k (without i ys)
times_without k i xs ys e =
    equal-or k i
    (λ f. rw (f, times_without_same i xs, times_without_same i ys))
    (λ n. times_without_other k i xs n ∙ e ∙ sym (times_without_other k i ys n))

serve_queue : (s : State) (i k : ℕ)
    → times k (give (turn s) i 1).queue ≡ cond (last s i 1) (times k (without i s.queue)) (times k s.queue)
unfolding give turn
serve_queue s i k =
    tested (last s i 1)
    (λ e. rw e (times_without k i (turn s).queue s.queue (times_turn s k)))
    (λ e. rw e (times_turn s k))

serve_used : (s : State) (i : ℕ) → is_priority s.setup ≡ false → Sliced s.setup s.used
    → (give (turn s) i 1).used ≤ s.setup.slice
unfolding give used_more_lem turn
serve_used s i e h =
    let more : (turn s).used + 1 ≤ s.setup.slice = overdue_room s.setup s.used (λ _. h) e in
    cond_both (λ (n : ℕ). n ≤ s.setup.slice) (last s i 1) 0 _
    (omega (arith, h.some))
    (rw e (omega arith))

serves : (s : State) → 0 < length s.queue → Served s (serve (turn s)) (chosen s.setup (turn s).queue)
unfolding serve give turn
serves s h =
    let i : ℕ = chosen s.setup (turn s).queue in
    record {
      is_open_lem = omega (arith, chosen_member s.setup (turn s).queue (omega (arith, length_turn s)), times_turn s i);
      setup = refl;
      clock = refl;
      idle = refl;
      sliced = λ e u. record { some = u.some; inside = serve_used s i e u };
      queue = serve_queue s i;
      owed = refl;
      given = refl;
      done = refl;
    }

-- ---- the tick

-- Nothing is open and the tick is idle, or an open task gets it.
pub ticked : (s : State) → ((s.queue ≡ []) × (tick s ≡ rest s 1)) ⊎ ((i : ℕ) × Served s (tick s) i)
unfolding tick tick_on
ticked s = go s.queue refl
  where
    go : (q : List ℕ) → s.queue ≡ q
        → ((s.queue ≡ []) × (tick_on s s.queue ≡ rest s 1)) ⊎ ((i : ℕ) × Served s (tick_on s s.queue) i)
    go [] e = inl (e, ap (tick_on s) e)
    go (h ∷ t) e =
        inr (
          chosen s.setup (turn s).queue,
          subst (λ (r : State). Served s r (chosen s.setup (turn s).queue)) (sym (ap (tick_on s) e))
              (serves s (omega (arith, ap length e))),
        )
