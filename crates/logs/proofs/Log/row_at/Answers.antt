-- `logs::Log::row_at` meets its contract. Assumes nothing.
use Rattle.std.specs.Prelude.{ℕ, ◌≡◌, length, ltb}
use Rattle.std.specs.Option.{unwrap_or}
use Rattle.std.proofs.Common.{refl, ◌∙◌}
use Rattle.std.proofs.lemmas.Bool.{ltb-true, ltb-false}
use Rattle.lists.proofs.Testing.{tested}
use Rattle.logs.specs.Records.{asked_times, found, row_at}
use Rattle.logs.specs.declared.Log.{Log}
use Rattle.logs.proofs.Rows.{found_row, found_none, row_past}
use Rattle.logs.proofs.Log.row_at.Goals as goal

or_zeros : (log : Log) (i : ℕ)
    → unwrap_or (found log.bytes.now i) (record { time = 0; task = 0; amount = 0 }) ≡ row_at log.bytes.now i
or_zeros log i =
    let bytes = log.bytes.now in
    let rows = length (asked_times bytes) in
    tested (ltb i rows)
    (λ t. rw (← found_row bytes i (ltb-true i rows t)) refl)
    (λ f. let h = ltb-false i rows f in rw (← found_none bytes i h) (row_past bytes log.reads i h))

pub returns : goal.returns
returns c = c.unwrap_or.ensures ∙ rw c.record_at.ensures (or_zeros c.args.self c.args.i)
