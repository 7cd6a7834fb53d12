-- The next leg: ticks one after another to one task. In order: how many at once; the tasks in the array; the parts of a
-- sound state; what the leg has, and the state after it; the same where none was the last that the task was owed.
-- Assumes nothing.
use Prim.Native.Nat.{ℕ, ◌+◌, ◌-◌, ◌≤◌, ◌<◌, ◌^◌, min}
use native.Mathlib.Omega.{arith}
use mathlib.Core.Path.{◌≡◌, sym, ap, ◌∙◌, subst}
use mathlib.Core.Bool.{true, false}
use mathlib.Core.List.{List}
use lib.ListN.{length, take, drop, replicate}
use lib.Seq.{get_or-take, get_or-drop, length-take-le}
use lib.Dec.{ltb}
use borrow.Author.Tests.{ne_eqb, ltb-true, ltb-false}
use Rattle.lists.specs.Lists.{at, times}
use Rattle.lists.proofs.Testing.{tested}
use Rattle.lists.proofs.Counting.{times_at}
use Rattle.lists.proofs.Totals.{at_inside, at_replicate, at_le_total}
use Rattle.rule.specs.Setups.{is_priority}
use Rattle.rule.specs.Tick.{chosen, turn, give, ticks}
use Rattle.rule.specs.declared.Setup.{Setup}
use Rattle.laws.specs.Sound.{Sound, Room}
use Rattle.laws.specs.Drains.{last_clock}
use Rattle.laws.proofs.Served.{overdue_room}
use Rattle.laws.proofs.Jump.{ticks_jump}
use Rattle.line.specs.Places.{queue_at, Tasks}
use Rattle.line.proofs.Queues.{times_queue_at, length_queue_at}
use Rattle.legs.specs.Parts.{parts, Kept, slice_due_lem, turned_to, served_to}
use Rattle.legs.specs.Legs.{Ready, at_once, leg_of, owed_after, given_after}
use Rattle.legs.specs.declared.Cursor.{Cursor}
use Rattle.legs.specs.declared.Leg.{Leg}
use Rattle.legs.proofs.Turns.{slice_due_robin, slice_due_whole, turned_used, turned_some, turned_kept}
use Rattle.legs.proofs.Turns.{parts_turn}

-- ---- how many at once

module _ (p : Setup) (used owed limit : ℕ) where
  pub at_once_asked : at_once p used owed limit ≤ limit
  unfolding at_once
  at_once_asked = tested (is_priority p) (λ e. rw e (omega arith)) (λ e. rw e (omega arith))

  pub at_once_owes : at_once p used owed limit ≤ owed
  unfolding at_once
  at_once_owes = tested (is_priority p) (λ e. rw e (omega arith)) (λ e. rw e (omega arith))

  pub at_once_sliced : Room p used 1 → Room p used (at_once p used owed limit)
  unfolding at_once
  at_once_sliced w e = rw e (omega (arith, w e))

  pub at_once_some : 0 < owed → 0 < limit → Room p used 1 → 0 < at_once p used owed limit
  unfolding at_once
  at_once_some o l w = tested (is_priority p) (λ e. rw e (omega arith)) (λ e. rw e (omega (arith, w e)))

-- of a slice that is not begun, a limit that leaves it whole gives what the slice gives
at_once_whole : (p : Setup) (owed limit : ℕ) → is_priority p ≡ false → p.slice ≤ limit
    → at_once p 0 owed p.slice ≡ at_once p 0 owed limit
unfolding at_once
at_once_whole p owed limit e h = rw e (omega arith)

-- so a limit of a slice leads to the same leg
pub leg_of_slice : (p : Setup) (c : Cursor) (limit : ℕ) (q o : List ℕ) → slice_due_lem p c limit ≡ true
    → leg_of p c p.slice q o ≡ leg_of p c limit q o
unfolding leg_of
leg_of_slice p c limit q o e =
    let task = at q (turned_to p c).head in
    ap (λ (n : ℕ). record { cursor = turned_to p c; task = task; owed = at o task; n = n })
    (rw (turned_used p c limit e)
    (at_once_whole p (at o task) limit (slice_due_robin p c limit e) (slice_due_whole p c limit e)))

-- ---- the tasks in the array

-- n tasks that are owed ticks stand at its first places
module _ (n : ℕ) (q o : List ℕ) (l : n ≤ length q) (owing : (k : ℕ) → 0 < times k (take n q) → 0 < at o k) where
  place_owed : (h : ℕ) → h < n → 0 < at o (at q h)
  place_owed h b =
      let m : length (take n q) ≡ n = length-take-le n q l in
      let e : at (take n q) h ≡ at q h = get_or-take n q h 0 b in
      owing (at q h) (subst (λ (x : ℕ). 0 < times x (take n q)) e (times_at (take n q) h (omega arith)))

  pub places_tasks : length o ≡ 32 → drop n q ≡ replicate (32 - n) 0 → Tasks q
  places_tasks w clear k =
      tested (ltb k n)
      (λ f. omega (arith, at_inside o (at q k) (place_owed k (ltb-true k n f))))
      (λ f.
      let i : k ≡ n + (k - n) = omega (arith, ltb-false k n f) in
      let z : at q k ≡ 0 =
      ap (at q) i
      ∙ sym (get_or-drop n q (k - n) 0)
      ∙ ap (λ (x : List ℕ). at x (k - n)) clear
      ∙ at_replicate (32 - n) (k - n) in
      omega arith)

pub ready_owes : {p : Setup} {c : Cursor} {q o : List ℕ} → Ready p c q o → (h : ℕ) → h < c.queued → 0 < at o (at q h)
ready_owes {p} {c} {q} {o} R =
    place_owed c.queued q o (omega (arith, R.kept.tidy.fits, R.kept.tidy.whole)) R.owing

-- ---- after the turn

module _ {p : Setup} {c : Cursor} {q o : List ℕ} (R : Ready p c q o) {r : Cursor} (e : r ≡ turned_to p c) where
  some : r.head < c.queued
  some = rw e (turned_some R.kept R.some)

  pub turned_inside : r.head < 32
  turned_inside = omega (arith, some, R.kept.tidy.fits)

  pub turned_owes : 0 < at o (at q r.head)
  turned_owes = ready_owes R r.head some

  pub turned_task : at q r.head < 32
  turned_task = omega (arith, at_inside o (at q r.head) turned_owes, R.owed32)

  pub turned_room : Room p r.used 1
  turned_room = unfold turned_to in rw e (overdue_room p c.used R.sliced)

-- ---- the parts of a sound state

module _ {p : Setup} {c : Cursor} {q o g d : List ℕ} (K : Kept p c q) (S : Sound (parts p c q o g d)) where
  pub times_front : (h k : ℕ) → times k (queue_at p h c.queued q) ≡ min 1 (at o k)
  times_front h k =
      omega (arith, times_queue_at p k h c.queued q, times_queue_at p k c.head c.queued q, S.queued k)

  owing : (k : ℕ) → 0 < times k (take c.queued q) → 0 < at o k
  owing k l = omega (arith, times_queue_at p k c.head c.queued q, S.queued k)

  pub ready : 0 < c.queued → Ready p c q o
  ready h = record { kept = K; some = h; owed32 = S.owed32; sliced = S.sliced; owing = owing }

  pub kept_tasks : Tasks q
  kept_tasks =
      places_tasks c.queued q o (omega (arith, K.tidy.fits, K.tidy.whole)) owing S.owed32 K.tidy.clear

-- ---- what the leg has

-- l is the next leg of the parts of a sound state in which something is open
pub record Leads (p : Setup) (c : Cursor) (limit : ℕ) (q o g d : List ℕ) (l : Leg) : Type 0 where
  pub kept : Kept p c q
  pub sound : Sound (parts p c q o g d)
  pub some : 0 < c.queued
  pub pos : 0 < limit
  pub leg : l ≡ leg_of p c limit q o

module _ {p : Setup} {c : Cursor} {limit : ℕ} {q o g d : List ℕ} {l : Leg} (K : Kept p c q)
    (S : Sound (parts p c q o g d)) (some : 0 < c.queued) (pos : 0 < limit) where
  pub leads : l ≡ leg_of p c limit q o → Leads p c limit q o g d l
  leads e = record { kept = K; sound = S; some = some; pos = pos; leg = e }

  -- where a turn comes, a limit of a slice leads to the same leg
  pub leads_slice : slice_due_lem p c limit ≡ true → l ≡ leg_of p c p.slice q o → Leads p c limit q o g d l
  leads_slice due e = leads (e ∙ leg_of_slice p c limit q o due)

module _ {p : Setup} {c : Cursor} {limit : ℕ} {q o g d : List ℕ} {l : Leg} (L : Leads p c limit q o g d l) where
  turned : l.cursor ≡ turned_to p c
  turned = unfold leg_of in ap (λ (x : Leg). x.cursor) L.leg

  pub leg_task : l.task ≡ at q l.cursor.head
  unfolding leg_of
  leg_task = rw L.leg

  pub leg_owed : l.owed ≡ at o l.task
  unfolding leg_of
  leg_owed = rw L.leg

  pub leg_once : l.n ≡ at_once p l.cursor.used l.owed limit
  unfolding leg_of
  leg_once = rw L.leg

  pub leg_queued : l.cursor.queued ≡ c.queued
  leg_queued = unfold turned_to in ap (λ (x : Cursor). x.queued) turned

  pub leg_clock : l.cursor.clock ≡ c.clock
  leg_clock = unfold turned_to in ap (λ (x : Cursor). x.clock) turned

  pub leg_kept : Kept p l.cursor q
  leg_kept = rw turned (turned_kept L.kept L.some)

  pub leg_some : 0 < l.cursor.queued
  leg_some = omega (arith, leg_queued, L.some)

  is_ready : Ready p c q o
  is_ready = ready L.kept L.sound L.some

  open_task : 0 < at o l.task
  open_task = rw leg_task (turned_owes is_ready turned)

  pub leg_known : l.task < 32
  leg_known = rw leg_task (turned_task is_ready turned)

  room : Room p l.cursor.used 1
  room = turned_room is_ready turned

  pub leg_asked : l.n ≤ limit
  leg_asked = rw leg_once (at_once_asked p l.cursor.used l.owed limit)

  pub leg_owes : l.n ≤ at o l.task
  leg_owes = rw (leg_once, ← leg_owed) (at_once_owes p l.cursor.used l.owed limit)

  pub leg_sliced : Room p l.cursor.used l.n
  leg_sliced = rw leg_once (at_once_sliced p l.cursor.used l.owed limit room)

  pub leg_gets : 0 < l.n
  leg_gets =
      rw leg_once (at_once_some p l.cursor.used l.owed limit (omega (arith, open_task, leg_owed)) L.pos room)

  pub leg_time : c.clock + limit ≤ last_clock → l.cursor.clock + l.n < 2 ^ 32
  leg_time t = omega (arith, leg_asked, leg_clock)

  pub leg_gives : c.clock + limit ≤ last_clock → at g l.task + l.n < 2 ^ 32
  leg_gives t = omega (arith, L.sound.spent, at_le_total g l.task, leg_asked)

  -- ---- the state after it

  pub leg_turn : parts p l.cursor q o g d ≡ turn (parts p c q o g d)
  leg_turn = ap (λ (x : Cursor). parts p x q o g d) turned ∙ parts_turn L.kept L.some

  pub leg_chosen : l.task ≡ chosen p (queue_at p l.cursor.head l.cursor.queued q)
  leg_chosen = leg_task ∙ leg_kept.serves leg_some

  pub parts_some : 0 < length (queue_at p c.head c.queued q)
  parts_some =
      let room : c.queued ≤ length q = omega (arith, L.kept.tidy.fits, L.kept.tidy.whole) in
      rw (length_queue_at p c.head c.queued q room) L.some

  pub leg_ticks : give (parts p l.cursor q o g d) l.task l.n ≡ ticks l.n (parts p c q o g d)
  leg_ticks =
      sym (ticks_jump (parts p c q o g d) (parts p l.cursor q o g d) L.sound parts_some leg_turn l.task l.n
      leg_chosen leg_gets leg_owes leg_sliced)

  -- ---- before the task is done

  pub served_kept : Kept p (served_to p l.cursor l.n) q
  unfolding served_to
  served_kept =
      let k = leg_kept in
      record { tidy = k.tidy; inside = k.inside; serves = k.serves }

  pub served_ticks : l.n < at o l.task
      → parts p (served_to p l.cursor l.n) q (owed_after l o) (given_after l g) d
      ≡ ticks l.n (parts p c q o g d)
  unfolding give served_to
  served_ticks h = simp (ne_eqb (at o l.task) l.n (omega arith)) at leg_ticks
