-- A run is taken apart, and put together with its queue from place 0 on. Assumes nothing.
use Prim.Native.Nat.{ℕ, zero-le}
use native.Mathlib.Omega.{arith}
use native.Mathlib.Nat.{not-suc-le-zero}
use mathlib.Core.Path.{◌≡◌, refl, sym, ap, ◌∙◌, subst}
use mathlib.Core.List.{List, ◌++◌}
use lib.ListN.{take, drop, replicate}
use lib.Dec.{ltb}
use Rattle.lists.proofs.Testing.{tested, cond_same}
use Rattle.rule.specs.Setups.{is_priority, setup_refusal_lem}
use Rattle.rule.specs.State.{State, fresh}
use Rattle.rule.specs.View.{view, Tidy, Shows}
use Rattle.rule.specs.declared.Setup.{Setup}
use Rattle.rule.specs.declared.Run.{Run}
use Rattle.laws.specs.Sound.{Sound}
use Rattle.laws.proofs.Made.{fresh_sound}
use Rattle.line.specs.Places.{queue_at, Tasks, Heads}
use Rattle.legs.specs.Parts.{with_queue, parts, Kept}
use Rattle.legs.specs.declared.Cursor.{Cursor}
use Rattle.engine.specs.Joining.{straight_to}
use Rattle.engine.specs.Promises.{Apart}
use Rattle.line.proofs.Queues.{queue_at_priority, queue_at_zero, take_straight}
use Rattle.line.proofs.Heads.{heads_inside, heads_serves}
use Rattle.engine.proofs.Joining.{straight_tidy}
use Rattle.legs.proofs.Legs.{places_tasks}

module _ (r : Run) (T : Tidy r) where
  pub run_tasks : Sound (view r) → Tasks r.queue
  run_tasks S =
      places_tasks r.queued r.queue r.owed (omega (arith, T.fits, T.whole))
      (λ k l. omega (arith, S.queued k))
      S.owed32
      T.clear

  pub apart : (head : ℕ) → Heads r.setup 0 r.queued r.queue head
      → Apart r (record { clock = r.clock; idle = r.idle; used = r.used; queued = r.queued; head = head })
  apart head H =
      record {
        kept =
            record {
              tidy = T;
              inside = heads_inside H;
              serves = λ y. heads_serves H y (omega (arith, T.fits, T.whole));
            };
        queued = refl;
        shown = ap (λ (x : List ℕ). with_queue r.setup cursor x r.owed r.given r.done) queue;
      }
    where
      cursor : Cursor
      cursor = record { clock = r.clock; idle = r.idle; used = r.used; queued = r.queued; head = head }

      queue : queue_at r.setup head r.queued r.queue ≡ take r.queued r.queue
      queue =
          tested (is_priority r.setup)
          (λ e. queue_at_priority r.setup head r.queued r.queue e)
          (λ e.
          ap (λ (x : ℕ). queue_at r.setup x r.queued r.queue) (H.robin e ∙ cond_same (ltb 0 r.queued) 0)
          ∙ queue_at_zero r.setup r.queued r.queue)

-- ---- a fresh run

abbrev pub begun : Cursor
begun = record { clock = 0; used = 0; idle = 0; queued = 0; head = 0 }

abbrev pub zeros32 : List ℕ
zeros32 = replicate 32 0

pub begun_parts : (p : Setup) → parts p begun zeros32 zeros32 zeros32 zeros32 ≡ fresh p
begun_parts p = ap (λ (q : List ℕ). with_queue p begun q zeros32 zeros32 zeros32) (queue_at_zero p 0 zeros32)

pub begun_kept : (p : Setup) → Kept p begun zeros32
begun_kept p =
    record {
      tidy = record { fits = zero-le; whole = refl; clear = refl };
      inside = zero-le;
      serves = λ h. absurd (not-suc-le-zero h);
    }

pub begun_sound : (p : Setup) → setup_refusal_lem p ≡ 0 → Sound (parts p begun zeros32 zeros32 zeros32 zeros32)
begun_sound p z = subst Sound (sym (begun_parts p)) (fresh_sound p z)

-- ---- put together

pub apart_sound : (run : Run) (c : Cursor) → Sound (view run) → Apart run c
    → Sound (parts run.setup c run.queue run.owed run.given run.done)
apart_sound run c h a = subst Sound (sym a.shown) h

pub apart_clock : (run : Run) (c : Cursor) → Apart run c → c.clock ≡ run.clock
apart_clock run c a = ap (λ (x : State). x.clock) a.shown

pub together : {p : Setup} {c : Cursor} {q q' o g d : List ℕ} {r : Cursor} → Kept p c q → r ≡ straight_to p c
    → q' ≡ queue_at p c.head c.queued q ++ drop c.queued q
    → Shows
    (record {
      setup = p;
      clock = r.clock;
      idle = r.idle;
      used = r.used;
      queued = r.queued;
      queue = q';
      owed = o;
      given = g;
      done = d;
    })
    (parts p c q o g d)
unfolding straight_to
together {p} {c} {q} {o = o} {g = g} {d = d} K er e =
    rw er
    record {
      tidy = straight_tidy K e;
      shown =
          ap (λ (x : List ℕ). with_queue p c x o g d)
          (take_straight p c.head c.queued q (omega (arith, K.tidy.fits, K.tidy.whole)) e);
    }
