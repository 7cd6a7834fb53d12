-- The rows of a log put into columns: none, one more. Assumes nothing.
use Prim.Native.Nat.{ℕ, ◌+◌, ◌<◌, zero-le}
use native.Mathlib.Omega.{arith}
use native.Mathlib.Numerals.{add-one}
use mathlib.Core.Path.{◌≡◌, refl, ap, ◌∙◌}
use mathlib.Core.List.{List}
use lib.ListN.{length, take, set, length-set}
use lib.Seq.{take-suc, take-suc-set}
use Rattle.lists.specs.Lists.{at}
use Rattle.judging.specs.Log.{Reads}
use Rattle.logs.specs.Records.{asked_times, asked_tasks, asked_amounts, row_at}
use Rattle.rule.specs.declared.Request.{Request}
use Rattle.logs.proofs.Rows.{column_most, column_same}
use Rattle.report.specs.Filled.{Roomy, Filled}

-- one entry more of a copy
take_more : (copy l : List ℕ) (i v : ℕ) → i < length copy → i < length l → v ≡ at l i → take i copy ≡ take i l
    → take (i + 1) (set copy i v) ≡ take (i + 1) l
take_more copy l i v h g e f = rw (add-one, take-suc-set copy i v h, take-suc l i 0 g, f, e)

module _ (log : List ℕ) (h : Reads log) where
  pub filled_start : (times tasks amounts : List ℕ) → Roomy times tasks amounts → Filled log 0 times tasks amounts
  filled_start times tasks amounts r =
      record { inside = zero-le; roomy = r; times_same = refl; tasks_same = refl; amounts_same = refl }

  pub filled_more : {times tasks amounts : List ℕ} {i : ℕ} (row : Request) → row ≡ row_at log i
      → i < length (asked_times log)
      → Filled log i times tasks amounts
      → Filled log (i + 1) (set times i row.time) (set tasks i row.task) (set amounts i row.amount)
  filled_more {times} {tasks} {amounts} {i} row e g f =
      let few = column_most 0 log h in
      let r = f.roomy in
      record {
        inside = omega arith;
        roomy =
            record {
              times_room = length-set times i row.time ∙ r.times_room;
              tasks_room = length-set tasks i row.task ∙ r.tasks_room;
              amounts_room = length-set amounts i row.amount ∙ r.amounts_room;
            };
        times_same =
            take_more times (asked_times log) i row.time (omega (arith, r.times_room)) g
            (ap (λ (x : Request). x.time) e) f.times_same;
        tasks_same =
            take_more tasks (asked_tasks log) i row.task (omega (arith, r.tasks_room))
            (omega (arith, column_same log h 1 0)) (ap (λ (x : Request). x.task) e) f.tasks_same;
        amounts_same =
            take_more amounts (asked_amounts log) i row.amount (omega (arith, r.amounts_room))
            (omega (arith, column_same log h 2 0)) (ap (λ (x : Request). x.amount) e) f.amounts_same;
      }
