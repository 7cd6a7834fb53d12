-- The parts while they wait for the next task to be done. What is given meanwhile is in no array: it is a field here.
-- Assumes nothing.
use Prim.Native.Nat.{ℕ, ◌+◌, ◌-◌, ◌≤◌, ◌<◌}
use native.Mathlib.Omega.{arith}
use mathlib.Core.Path.{◌≡◌, refl, sym, ap, ◌∙◌, subst}
use mathlib.Core.List.{List}
use lib.ListN.{set}
use Rattle.lists.specs.Lists.{at, total}
use Rattle.lists.proofs.Totals.{at_inside, at_le_total, total_set}
use Rattle.rule.specs.State.{State}
use Rattle.rule.specs.Tick.{ticks}
use Rattle.rule.specs.declared.Setup.{Setup}
use Rattle.laws.specs.Sound.{Sound, Room}
use Rattle.laws.specs.Drains.{last_clock}
use Rattle.laws.specs.Next.{DoneNext}
use Rattle.laws.proofs.Sound.{ticks_sound}
use Rattle.laws.proofs.NextDone.{next_jumped, next_passed}
use Rattle.legs.specs.Parts.{parts, Kept, served_to}
use Rattle.legs.specs.Legs.{Ready, leg_of}
use Rattle.legs.specs.declared.Cursor.{Cursor}
use Rattle.legs.specs.declared.Leg.{Leg}
use Rattle.legs.proofs.Legs.{ready, leads, leg_known, Leads, leg_owed, leg_clock, leg_owes, leg_gets, leg_sliced, leg_turn, leg_chosen, leg_some}
use Rattle.legs.proofs.Legs.{parts_some, served_kept, served_ticks}
use Rattle.engine.specs.Promises.{Owing}

-- what is done next from here on is done next from start on
pub record Waits (start : State) (p : Setup) (c : Cursor) (q o d : List ℕ) : Type 0 where
  pub kept : Kept p c q
  pub some : 0 < c.queued
  pub soon : c.clock + total o ≤ last_clock
  pub given : List ℕ
  pub sound : Sound (parts p c q o given d)
  pub passes : (task time : ℕ) → DoneNext (parts p c q o given d) task time → DoneNext start task time

module _ {start : State} {p : Setup} {c : Cursor} {q o d : List ℕ} (W : Waits start p c q o d) {limit : ℕ}
    (pos : 0 < limit) {l : Leg} (L : l ≡ leg_of p c limit q o) where
  abbrev now : State
  now = parts p c q o W.given d

  abbrev ready_now : State
  ready_now = parts p l.cursor q o W.given d

  waits_leads : Leads p c limit q o W.given d l
  waits_leads = leads W.kept W.sound W.some pos L

  some : 0 < l.n
  some = leg_gets waits_leads

  owes : l.n ≤ at o l.task
  owes = leg_owes waits_leads

  waits_time : l.cursor.clock + l.n ≤ last_clock
  waits_time = omega (arith, leg_clock waits_leads, owes, at_le_total o l.task, W.soon)

  pub waits_end : l.owed ≡ l.n → DoneNext start l.task (l.cursor.clock + l.n)
  waits_end e =
      W.passes l.task (l.cursor.clock + l.n)
      (next_jumped now ready_now W.sound (parts_some waits_leads) (leg_turn waits_leads) l.task l.n
      (leg_chosen waits_leads) some owes (leg_sliced waits_leads)
      (sym (leg_owed waits_leads) ∙ e))

  module _ {r : Cursor} {o' : List ℕ} (ne : l.owed ≡ l.n → ⊥) (er : r ≡ served_to p l.cursor l.n)
      (eo : o' ≡ set o l.task (at o l.task - l.n)) where
    more : l.n < at o l.task
    more = omega (arith, leg_owed waits_leads, owes)

    given' : List ℕ
    given' = set W.given l.task (at W.given l.task + l.n)

    later : parts p r q o' given' d ≡ ticks l.n now
    unfolding given'
    later = rw (er, eo) (served_ticks waits_leads more)

    left : total o' + l.n ≡ total o
    left =
        let inside = at_inside o l.task (omega (arith, more)) in
        rw eo (omega (arith, more, total_set o l.task (at o l.task - l.n) inside))

    pub waits_less : total o' < total o
    waits_less = omega (arith, left, some)

    pub waits_step : Waits start p r q o' d
    waits_step =
        record {
          kept = rw er (served_kept waits_leads);
          some = rw er served_some;
          soon = omega (arith, served_clock, left, W.soon);
          given = given';
          sound = subst Sound (sym later) (ticks_sound l.n now W.sound);
          passes = λ task time x.
              W.passes task time
              (next_passed now ready_now W.sound
              (parts_some waits_leads)
              (leg_turn waits_leads) l.task l.n
              (leg_chosen waits_leads)
              some owes (leg_sliced waits_leads) more task time
              (subst (λ (y : State). DoneNext y task time) later x));
        }
      where
        served_some : 0 < (served_to p l.cursor l.n).queued
        served_some = unfold served_to in leg_some waits_leads

        served_clock : r.clock ≡ c.clock + l.n
        served_clock =
            unfold served_to in
            ap (λ (x : Cursor). x.clock) er
            ∙ ap (λ (x : ℕ). x + l.n) (leg_clock waits_leads)

-- ---- whatever was given and done

-- what is done next from here on is done next from the start on
abbrev pub Waiting : Setup → Cursor → Cursor → List ℕ → List ℕ → List ℕ → Type 0
Waiting p from c q o left =
    (g d : List ℕ) → Sound (parts p from q o g d) → Waits (parts p from q o g d) p c q left d

module _ {p : Setup} {from c : Cursor} {q o left : List ℕ} (O : Owing p from q o) (I : Waiting p from c q o left)
  where
    abbrev one : Waits (parts p from q o O.given O.done) p c q left O.done
    one = I O.given O.done O.sound

    pub waiting_ready : Ready p c q left
    waiting_ready = ready one.kept one.sound one.some

    module _ {l : Leg} (L : l ≡ leg_of p c last_clock q left) where
      pub waiting_task : l.task < 32
      waiting_task = leg_known (waits_leads one (omega arith) L)

      pub waiting_owes : l.n ≤ at left l.task
      waiting_owes = owes one (omega arith) L

      pub waiting_time : l.cursor.clock + l.n ≤ last_clock
      waiting_time = waits_time one (omega arith) L

      pub waiting_room : Room p l.cursor.used l.n
      waiting_room = leg_sliced (waits_leads one (omega arith) L)

      pub waiting_less : {r : Cursor} → (l.owed ≡ l.n → ⊥) → r ≡ served_to p l.cursor l.n
          → total (set left l.task (at left l.task - l.n)) < total left
      waiting_less ne er = waits_less one (omega arith) L ne er refl
