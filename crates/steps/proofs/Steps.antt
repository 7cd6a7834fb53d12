-- What a step does to the state of the parts. In order: how far it goes; idle ticks; a leg that ends before the task is
-- done, and one with which it is done. Assumes nothing.
use Prim.Native.Nat.{ℕ, ◌+◌, ◌-◌, ◌≤◌, ◌<◌}
use native.Mathlib.Omega.{arith}
use mathlib.Core.Path.{◌≡◌, refl, sym, ap, ◌∙◌, subst}
use mathlib.Core.Bool.{cond}
use mathlib.Core.List.{List, [], ◌∷◌, ◌++◌}
use lib.ListN.{length, drop, replicate, replicate-append-replicate}
use lib.Dec.{eqb, ltb}
use borrow.Author.Tests.{eq-eqb, ne_eqb, eqb-false}
use Rattle.lists.specs.Lists.{at, times, without}
use Rattle.lists.proofs.Testing.{tested, cond-false}
use Rattle.lists.proofs.Places.{length_zero}
use Rattle.rule.specs.State.{State}
use Rattle.rule.specs.Tick.{chosen, turn, give, rest, ticks}
use Rattle.rule.specs.declared.Setup.{Setup}
use Rattle.laws.specs.Sound.{Sound}
use Rattle.laws.proofs.Foremost.{chosen_member}
use Rattle.laws.proofs.Served.{times_turn, length_turn, overdue_room}
use Rattle.laws.proofs.Ticks.{ticks_clock}
use Rattle.laws.proofs.Jump.{ticks_idle}
use Rattle.line.specs.Places.{queue_at, taken_out}
use Rattle.line.proofs.Rings.{length_taken_out, drop_taken_out}
use Rattle.line.proofs.Queues.{length_queue_at, queue_at_taken_out}
use Rattle.line.proofs.Heads.{heads_inside, heads_serves}
use Rattle.legs.specs.Parts.{parts, Kept, served_to, rested_to}
use Rattle.legs.specs.Legs.{at_once, owed_after, given_after}
use Rattle.legs.specs.declared.Cursor.{Cursor}
use Rattle.legs.specs.declared.Leg.{Leg}
use Rattle.legs.proofs.Legs.{at_once_asked, at_once_some, times_front, Leads, leg_task, leg_owed, leg_once, leg_queued}
use Rattle.legs.proofs.Legs.{leg_kept, leg_owes, leg_gets, leg_turn, leg_chosen, leg_ticks, parts_some, served_kept}
use Rattle.legs.proofs.Legs.{served_ticks}
use Rattle.steps.specs.Steps.{stride, Finished, Stepped}

-- ---- how far a step goes

stride_idle : (s : State) (limit : ℕ) → s.queue ≡ [] → stride s limit ≡ limit
unfolding stride
stride_idle s limit e = rw e

stride_leg : (s : State) (limit : ℕ) → 0 < length s.queue
    → stride s limit ≡ at_once s.setup (turn s).used (at s.owed (chosen s.setup (turn s).queue)) limit
unfolding stride
stride_leg s limit h = cond-false _ _ (ne_eqb (length s.queue) 0 (omega arith))

stride_asked : (s : State) (limit : ℕ) → stride s limit ≤ limit
unfolding stride
stride_asked s limit =
    tested (eqb (length s.queue) 0)
    (λ e. rw e (omega arith))
    (λ e. rw e (at_once_asked s.setup (turn s).used (at s.owed (chosen s.setup (turn s).queue)) limit))

stride_some : (s : State) (limit : ℕ) → Sound s → 0 < limit → 0 < stride s limit
unfolding stride
stride_some s limit S h =
    let k = chosen s.setup (turn s).queue in
    tested (eqb (length s.queue) 0)
    (λ e. rw e h)
    (λ e.
    let some : 0 < length (turn s).queue = omega (arith, eqb-false (length s.queue) 0 e, length_turn s) in
    rw e
    (at_once_some s.setup (turn s).used (at s.owed k) limit
    (omega (arith, chosen_member s.setup (turn s).queue some, times_turn s k, S.queued k))
    h
    (unfold turn in overdue_room s.setup s.used S.sliced)))

module _ {p : Setup} {r : Cursor} {q : List ℕ} {limit : ℕ} {before after : State} (S : Sound before) (pos : 0 < limit)
    (J : Stepped p r q limit before after) where
  clock : after.clock ≡ before.clock + stride before limit
  clock = ap (λ (x : State). x.clock) J.shown ∙ ticks_clock (stride before limit) before

  pub stepped_later : before.clock < after.clock
  stepped_later = omega (arith, clock, stride_some before limit S pos)

  pub stepped_soon : after.clock ≤ before.clock + limit
  stepped_soon = omega (arith, clock, stride_asked before limit)

module _ {p : Setup} {c : Cursor} {q o g d : List ℕ} (K : Kept p c q) (S : Sound (parts p c q o g d)) where
  -- ---- idle ticks

  pub rested_stepped : {limit : ℕ} {r : Cursor} → c.queued ≡ 0 → r ≡ rested_to c limit
      → Stepped p r q limit (parts p c q o g d) (parts p r q o g d)
  unfolding rested_to
  rested_stepped {limit} z er =
      rw er
      record {
        kept = record { tidy = K.tidy; inside = K.inside; serves = K.serves };
        shown =
            resting
            ∙ sym (ticks_idle limit (parts p c q o g d) empty)
            ∙ ap (λ (n : ℕ). ticks n (parts p c q o g d)) (sym (stride_idle (parts p c q o g d) limit empty));
      }
    where
      empty : queue_at p c.head c.queued q ≡ []
      empty = length_zero (queue_at p c.head c.queued q)
          (length_queue_at p c.head c.queued q (omega (arith, K.tidy.fits, K.tidy.whole)) ∙ z)

      resting : parts p (rested_to c limit) q o g d ≡ rest (parts p c q o g d) limit
      resting = unfold rest in refl

-- ---- a leg

module _ {p : Setup} {c : Cursor} {limit : ℕ} {q o g d : List ℕ} {l : Leg} (L : Leads p c limit q o g d l) where
  kept : Kept p l.cursor q
  kept = leg_kept L

  stride_parts : stride (parts p c q o g d) limit ≡ l.n
  stride_parts =
      stride_leg (parts p c q o g d) limit (parts_some L)
      ∙ ap (λ (x : State). at_once p x.used (at o (chosen p x.queue)) limit) (sym (leg_turn L))
      ∙ ap (λ (k : ℕ). at_once p l.cursor.used (at o k) limit) (sym (leg_chosen L))
      ∙ ap (λ (k : ℕ). at_once p l.cursor.used k limit) (sym (leg_owed L))
      ∙ sym (leg_once L)

  stepped : {r : Cursor} {q' : List ℕ} {after : State} → Kept p r q' → after ≡ ticks l.n (parts p c q o g d)
      → Stepped p r q' limit (parts p c q o g d) after
  stepped k e =
      record { kept = k; shown = e ∙ ap (λ (n : ℕ). ticks n (parts p c q o g d)) (sym stride_parts) }

  pub served_stepped : {r : Cursor} {o' g' : List ℕ} → l.n < at o l.task → r ≡ served_to p l.cursor l.n
      → o' ≡ owed_after l o → g' ≡ given_after l g → Stepped p r q limit (parts p c q o g d) (parts p r q o' g' d)
  served_stepped h er eo eg =
      rw (er, eo, eg) (stepped (served_kept L) (served_ticks L h))

  -- ---- with the last that it is owed

  module _ {r : Cursor} {q' d' : List ℕ} (F : Finished p l.cursor l.task l.n q d r q' d') where
    abbrev h : ℕ
    h = l.cursor.head

    abbrev n : ℕ
    n = l.cursor.queued

    head_below : h < n
    head_below = omega (arith, kept.inside, leg_queued L)

    room : n ≤ length q
    room = omega (arith, kept.tidy.fits, L.kept.tidy.whole)

    finished_queue : queue_at p r.head r.queued q' ≡ without l.task (queue_at p h n q)
    finished_queue =
        let task = leg_task L in
        let once : times (at q h) (queue_at p h n q) ≡ 1 =
        subst (λ (x : ℕ). times x (queue_at p h n q) ≡ 1) task
        (ap (λ (x : ℕ). times l.task (queue_at p h x q)) (leg_queued L)
        ∙ times_front L.kept L.sound h l.task
        ∙ omega (arith, leg_owes L, leg_gets L)) in
        ap (λ (x : List ℕ). queue_at p r.head r.queued x) F.left
        ∙ ap (λ (x : ℕ). queue_at p r.head x (taken_out h q)) F.queued
        ∙ queue_at_taken_out p h n q r.head head_below room once
        (λ e. F.head.robin e ∙ ap (λ (x : ℕ). cond (ltb h x) h 0) F.queued)
        ∙ ap (λ (x : ℕ). without x (queue_at p h n q)) (sym task)

    finished_ticks : at o l.task ≡ l.n
        → parts p r q' (owed_after l o) (given_after l g) d' ≡ ticks l.n (parts p c q o g d)
    finished_ticks e = gave ∙ leg_ticks L
      where
        gave : parts p r q' (owed_after l o) (given_after l g) d' ≡ give (parts p l.cursor q o g d) l.task l.n
        gave =
            unfold give in
            simp (F.clock, F.idle, F.used, finished_queue, F.done, eq-eqb (at o l.task) l.n e)

    finished_kept : Kept p r q'
    finished_kept =
        let w : length q' ≡ 32 =
        ap length F.left ∙ length_taken_out h q (omega (arith, head_below, room)) ∙ L.kept.tidy.whole in
        let m : r.queued ≤ 32 = omega (arith, F.queued, kept.tidy.fits) in
        let z : 32 - n + 1 ≡ 32 - r.queued = omega (arith, F.queued, head_below, kept.tidy.fits) in
        record {
          tidy =
              record {
                fits = m;
                whole = w;
                clear =
                    ap (λ (x : ℕ). drop x q') F.queued
                    ∙ ap (drop (n - 1)) F.left
                    ∙ drop_taken_out h n q head_below room
                    ∙ ap (λ (x : List ℕ). x ++ 0 ∷ []) kept.tidy.clear
                    ∙ replicate-append-replicate (32 - n) 1 0
                    ∙ ap (λ (x : ℕ). replicate x 0) z;
              };
          inside = heads_inside F.head;
          serves = λ y. heads_serves F.head y (omega arith);
        }

    pub finished_stepped : {o' g' : List ℕ} → at o l.task ≡ l.n → o' ≡ owed_after l o → g' ≡ given_after l g
        → Stepped p r q' limit (parts p c q o g d) (parts p r q' o' g' d')
    finished_stepped e eo eg = rw (eo, eg) (stepped finished_kept (finished_ticks e))
