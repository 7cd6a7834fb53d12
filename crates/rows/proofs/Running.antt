-- The loop over rows on the parts of a run. In order: the rows; one row more, refused or accepted; the end, with the
-- drain. Assumes nothing.
use Prim.Native.Nat.{ℕ, ◌+◌, ◌≤◌, ◌<◌}
use native.Mathlib.Omega.{arith}
use mathlib.Core.Path.{◌≡◌, sym, ap, ◌∙◌, subst}
use mathlib.Core.List.{List}
use lib.ListN.{length, set, replicate}
use Rattle.std.specs.Prelude.{Ok, Err}
use Rattle.lists.specs.Lists.{at, total}
use Rattle.rule.specs.State.{State}
use Rattle.rule.specs.Calls.{last_time, moved, drained, opened, Call, request, refusal, call}
use Rattle.rule.specs.Table.{refused, finished, rows}
use Rattle.laws.specs.Sound.{Sound}
use Rattle.laws.specs.Drains.{last_clock}
use Rattle.laws.specs.Rows.{Fitted}
use Rattle.laws.specs.Accepted.{Requested}
use Rattle.laws.proofs.Accepted.{request_accepted, call_request, request_clock, refusal_request}
use Rattle.laws.proofs.Drains.{owed_limit}
use Rattle.rule.specs.declared.Setup.{Setup}
use Rattle.rule.specs.declared.Request.{Request}
use Rattle.requests.specs.Numbers.{call_refusal_number}
use Rattle.requests.specs.declared.CallRefusal.{CallRefusal}
use Rattle.requests.proofs.Numbers.{call_refusal_some}
use Rattle.engine.specs.Promises.{Asks}
use Rattle.engine.proofs.Requests.{asked_taken}
use Rattle.rows.specs.Promises.{Runs, settled_column}
use Rattle.rows.proofs.Taking.{RowsTaken, taken_start, taken_refused, taken_step, taken_outcome, taken_known}

-- ---- the rows

-- after i rows, from the state s₀ to s
pub record RowsGoing (ts ks ms noted₀ : List ℕ) (s₀ s : State) (last noted : List ℕ) (i : ℕ) : Type 0 where
  pub soon : s.clock ≤ last_time
  pub rows : RowsTaken ts ks ms s₀ s last noted i (length noted₀)

module _ {ts ks ms noted₀ : List ℕ} {s₀ : State} where
  pub going_start : {s : State} → s ≡ s₀ → s₀.clock ≡ 0 → RowsGoing ts ks ms noted₀ s₀ s (replicate 32 0) noted₀ 0
  going_start e z = rw e (record { soon = omega (arith, z); rows = taken_start ts ks ms s₀ noted₀ })

  module _ {s : State} {last noted : List ℕ} {i : ℕ} (G : RowsGoing ts ks ms noted₀ s₀ s last noted i) where
    pub going_room : Sound s → s.clock + total s.owed ≤ last_clock
    going_room S = omega (arith, G.soon, owed_limit s S)

    -- the row that task k's note is for has a place among the notes
    pub going_mark : (k : ℕ) → i < length ts → length ts < length noted₀ → at last k < length noted
    going_mark k h wide = omega (arith, G.rows.marks k, G.rows.room)

    -- ---- one row more

    module _ (h : i < length ts) (p : Setup) (F : Fitted p (length ts) (length ks) (length ms)) {q : Request}
        (e : q ≡ record { time = at ts i; task = at ks i; amount = at ms i }) {n : ℕ} {s' : State}
        (A : Asks q.time q.task q.amount n s s') where
      abbrev row : Call
      row = request (at ts i) (at ks i) (at ms i)

      number : n ≡ refusal s row
      number = subst (λ (x : Request). n ≡ refusal s (request x.time x.task x.amount)) e
          (A.answer ∙ sym (refusal_request s q.time q.task q.amount))

      pub going_refused : (x : CallRefusal) → n ≡ call_refusal_number x
          → Runs s₀ (rows ts ks ms) ks (Err (record { row = i + 1; refusal = x })) noted₀ noted
      going_refused x f =
          record {
            room = G.rows.room;
            stopped =
                taken_refused G.rows F.tasks_equal F.amounts_equal h (λ z. omega (arith, call_refusal_some x, number, f))
                ∙ ap (λ (m : ℕ). refused m (i + 1)) (sym number ∙ f);
            taken = tt;
          }

      module _ (z : n ≡ 0) where
        accepted : refusal s row ≡ 0
        accepted = sym number ∙ z

        requested : Requested s q.time q.task q.amount
        requested = request_accepted s q.time q.task q.amount (sym A.answer ∙ z)

        pub going_known : Sound s → q.task < 32
        going_known S = omega (arith, requested.task, S.few)

        called : s' ≡ call s row
        called =
            A.left
            ∙ asked_taken s q.time q.task q.amount (sym A.answer ∙ z)
            ∙ ap (λ (x : Request). opened (moved s x.time) x.task x.amount) e
            ∙ sym (call_request s (at ts i) (at ks i) (at ms i) accepted)

        pub going_step : Sound s → length ts < length noted₀ → {last' noted' : List ℕ} → last' ≡ set last q.task (i + 1)
            → noted' ≡ set noted (at last q.task) (at s'.done q.task)
            → RowsGoing ts ks ms noted₀ s₀ s' last' noted' (i + 1)
        going_step S wide e₁ e₂ =
            let small : at ks i < 32 = subst (λ (x : Request). x.task < 32) e (going_known S) in
            let soon : at ts i ≤ last_time = subst (λ (x : Request). x.time ≤ last_time) e requested.time in
            rw (e₁, e₂, e, called)
            record {
              soon = rw (request_clock s (at ts i) (at ks i) (at ms i) accepted) soon;
              rows = taken_step G.rows F.tasks_equal F.amounts_equal h accepted small wide;
            }

    -- ---- the end

    pub going_end : length ts ≤ i → (p : Setup) → Fitted p (length ts) (length ks) (length ms) → {s' : State}
        → s' ≡ drained s
        → Runs s₀ (rows ts ks ms) ks (Ok (record { end = s'.clock; last = last; done = s'.done })) noted₀ noted
    going_end h p F e =
        record {
          room = G.rows.room;
          stopped = tt;
          taken =
              record {
                known = taken_known G.rows F.tasks_equal F.amounts_equal h;
                ends =
                    taken_outcome G.rows F.tasks_equal F.amounts_equal h
                    ∙ ap (λ (x : State). finished (settled_column ks last x.done noted) x.clock) (sym e);
              };
        }
