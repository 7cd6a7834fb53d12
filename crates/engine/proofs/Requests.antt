-- A request on the parts: what it leaves, and the promise for each of its three ends. Assumes nothing.
use Prim.Native.Nat.{ℕ, ◌≤◌, ◌<◌}
use native.Mathlib.Omega.{arith}
use mathlib.Core.Path.{◌≡◌, sym, ap, ◌∙◌, subst}
use lib.ListN.{length}
use borrow.Author.Tests.{ne_eqb}
use Rattle.lists.specs.Lists.{at}
use Rattle.lists.proofs.Testing.{cond-false}
use Rattle.rule.specs.State.{State}
use Rattle.rule.specs.Calls.{moved, opened, request_refusal}
use Rattle.laws.specs.Sound.{Sound}
use Rattle.laws.proofs.Accepted.{request_accepted}
use Rattle.laws.proofs.Made.{request_sound, queue_room}
use Rattle.requests.proofs.Early.{early, early_passed, early_between, refusal_now, refusal_open, refusal_none}
use Rattle.engine.specs.Promises.{after_ask, Asks}
use Rattle.engine.specs.Live.{state}
use Rattle.engine.specs.declared.Live.{Live}
use Rattle.line.proofs.Queues.{length_queue_at}

-- ---- what the request leaves

module _ (s : State) (t k a : ℕ) where
  asked_now : (early s t k a ≡ 0 → ⊥) → after_ask s t k a ≡ s
  unfolding after_ask
  asked_now h =
      let r = request_refusal s t k a in
      let e = refusal_now s t k a h in
      cond-false _ _ (ne_eqb r 0 (λ z. h (sym e ∙ z)))
      ∙ cond-false _ s (ne_eqb r 14 (λ z. omega (arith, (early_between s t k a h).1, e)))

  asked_open : request_refusal s t k a ≡ 14 → after_ask s t k a ≡ moved s t
  unfolding after_ask
  asked_open e = rw e

  pub asked_taken : request_refusal s t k a ≡ 0 → after_ask s t k a ≡ opened (moved s t) k a
  unfolding after_ask
  asked_taken e = rw e

-- ---- the promise

pub asks_early : {before : State} {t k a : ℕ} {n : ℕ} → n ≡ early before t k a → (n ≡ 0 → ⊥) → Asks t k a n before before
asks_early {before} {t} {k} {a} e h =
    let h' : early before t k a ≡ 0 → ⊥ = λ z. h (e ∙ z) in
    record {
      answer = e ∙ sym (refusal_now before t k a h');
      left = sym (asked_now before t k a h');
    }

module _ (t k a : ℕ) {before : State} (S : Sound before) (e : early before t k a ≡ 0) where
  -- the request of an uncounted task is refused
  pub asks_task : k < 32
  asks_task = omega (arith, (early_passed before.setup.count before.clock t k a e).task, S.few)

  -- the parts have been moved to the time
  module _ (live : Live) (R : state live ≡ moved before t) where
    owed_moved : at live.arrays.owed k ≡ at (moved before t).owed k
    owed_moved = ap (λ (x : State). at x.owed k) R

    pub asks_open : 0 < at live.arrays.owed k → Asks t k a 14 before (state live)
    asks_open h =
        let r : request_refusal before t k a ≡ 14 = refusal_open before t k a e (omega (arith, owed_moved)) in
        record { answer = sym r; left = R ∙ sym (asked_open before t k a r) }

    module _ (z : at live.arrays.owed k ≤ 0) where
      none : request_refusal before t k a ≡ 0
      none = refusal_none before t k a e (omega (arith, owed_moved))

      -- a task that is not open has a place in the queue's array
      pub asks_room : live.cursor.queued < 32
      asks_room =
          let c = live.cursor in
          let q = live.arrays.queue in
          let l = length_queue_at live.setup c.head c.queued q (omega (arith, live.kept.tidy.fits, live.kept.tidy.whole)) in
          omega (arith, l, ap (λ (x : State). length x.queue) R, queue_room before t k a S none)

      module _ {after : State} (o : after ≡ opened (state live) k a) where
        pub asks_sound : Sound after
        asks_sound =
            subst Sound (sym (o ∙ ap (λ (x : State). opened x k a) R))
            (request_sound before t k a S (request_accepted before t k a none))

        pub asks_taken : Asks t k a 0 before after
        asks_taken =
            record {
              answer = sym none;
              left = o ∙ ap (λ (x : State). opened x k a) R ∙ sym (asked_taken before t k a none);
            }
