-- The ways in which a table is answered. In order: refused before the rows, by its setup or by its columns; columns that
-- fit; refused at a row, and run to the end. Assumes nothing.
use Prim.Native.Nat.{ℕ, ◌<◌}
use native.Mathlib.Omega.{arith}
use mathlib.Core.Path.{◌≡◌, refl, sym, ap, ◌∙◌, subst}
use mathlib.Core.List.{List, ◌++◌}
use lib.ListN.{length, drop}
use Rattle.std.specs.Prelude.{Result, Ok, Err, IsErrAnd}
use Rattle.std.proofs.lemmas.Result.{err_from_is_err_and}
use Rattle.rule.specs.Setups.{setup_refusal_lem}
use Rattle.rule.specs.State.{fresh}
use Rattle.rule.specs.Table.{Outcome, outcome_from, column_refusal_lem, table_refusal, rows, table}
use Rattle.rule.specs.declared.Setup.{Setup}
use Rattle.laws.specs.Rows.{Tabled}
use Rattle.laws.proofs.Rows.{table_refusal_setup, table_refusal_columns, table_tabled, table_refused, table_accepted}
use Rattle.laws.proofs.Rows.{written_refused, written_finished}
use Rattle.setups.specs.Numbers.{refusal_number}
use Rattle.setups.specs.declared.SetupRefusal.{SetupRefusal}
use Rattle.setups.proofs.Numbers.{refusal_some}
use Rattle.requests.specs.Numbers.{call_refusal_number, column_refusal_number}
use Rattle.requests.specs.declared.ColumnRefusal.{ColumnRefusal}
use Rattle.requests.proofs.Numbers.{column_refusal_some}
use Rattle.rows.specs.Promises.{AllTaken, StoppedAt, settled_column}
use Rattle.rows.specs.declared.Ran.{Ran}
use Rattle.rows.specs.declared.RowRefusal.{RowRefusal}
use Rattle.rows.proofs.Putting.{length_settled}
use Rattle.table.specs.Answers.{Answers}
use Rattle.table.specs.Numbers.{table_refusal_number, table_refusal_place, refused_at}
use Rattle.table.specs.declared.TableRefusal.{TableRefusal}
use Rattle.table.specs.declared.TableRefusal.TheVariants as why

module _ (p : Setup) (ts ks ms before : List ℕ) where
  abbrev misfit : ℕ
  misfit = column_refusal_lem (length ts) (length ks) (length ms) (length before)

  abbrev the_table : Outcome
  the_table = table p ts ks ms (length before)

  abbrev judged : ℕ
  judged = table_refusal p (length ts) (length ks) (length ms) (length before)

  judged_columns : setup_refusal_lem p ≡ 0 → judged ≡ misfit
  judged_columns z =
      table_refusal_columns p (length ts) (length ks) (length ms) (length before) z

  -- ---- refused before the rows

  refused_before : (e : TableRefusal) → judged ≡ table_refusal_number e → 0 < table_refusal_number e
      → table_refusal_place e ≡ 0 → {r : Result ℕ TableRefusal} → IsErrAnd r (λ x. x ≡ e) → Answers the_table before r before
  refused_before e f some z {r} h =
      let n = table_refusal_number e in
      let w = err_from_is_err_and r h in
      let outcome = table_refused p ts ks ms (length before) n f (λ y. omega (arith, y, some)) in
      rw (w.1, w.2)
      (subst (λ (o : Outcome). Answers o before (Err e) before) (sym outcome)
      record { answer = ap (refused_at n) z; column = sym (written_refused n 0 before) })

  pub table_misset : (e : SetupRefusal) → refusal_number e ≡ setup_refusal_lem p → {r : Result ℕ TableRefusal}
      → IsErrAnd r (λ x. x ≡ why.Setup e) → Answers the_table before r before
  table_misset e f =
      refused_before (why.Setup e)
      (table_refusal_setup p (length ts) (length ks) (length ms) (length before)
      (λ y. omega (arith, refusal_some e, f, y))
      ∙ sym f)
      (refusal_some e) refl

  pub table_misfit : setup_refusal_lem p ≡ 0 → (e : ColumnRefusal) → column_refusal_number e ≡ misfit
      → {r : Result ℕ TableRefusal} → IsErrAnd r (λ x. x ≡ why.Columns e) → Answers the_table before r before
  table_misfit z e f = refused_before (why.Columns e) (judged_columns z ∙ sym f) (column_refusal_some e) refl

  -- ---- columns that fit

  pub columns_tabled : setup_refusal_lem p ≡ 0 → misfit ≡ 0
      → Tabled p (length ts) (length ks) (length ms) (length before)
  columns_tabled z f =
      table_tabled p (length ts) (length ks) (length ms) (length before)
      (judged_columns z ∙ f)

  module _ (q : Tabled p (length ts) (length ks) (length ms) (length before)) where
    abbrev outcome : Outcome
    outcome = outcome_from (fresh p) (rows ts ks ms)

    table_runs : {r : Result ℕ TableRefusal} {after : List ℕ} → Answers outcome before r after
        → Answers the_table before r after
    table_runs {r} {after} =
        subst (λ (o : Outcome). Answers o before r after)
        (sym (table_accepted p ts ks ms (length before) q))

    pub answer_refused : (e : RowRefusal) → StoppedAt (fresh p) (rows ts ks ms) e → {r : Result ℕ TableRefusal}
        → IsErrAnd r (λ x. x ≡ why.Row e) → Answers the_table before r before
    answer_refused e f {r} h =
        let n = call_refusal_number e.refusal in
        let w = err_from_is_err_and r h in
        rw (w.1, w.2)
        (table_runs
        (subst (λ (o : Outcome). Answers o before (Err (why.Row e)) before) (sym f)
        record { answer = refl; column = sym (written_refused n e.row before) }))

    pub answer_finished : {noted after : List ℕ} (ran : Ran) → AllTaken (fresh p) (rows ts ks ms) ks noted ran
        → after ≡ settled_column ks ran.last ran.done noted ++ drop (length ks) before
        → Answers the_table before (Ok ran.end) after
    answer_finished {noted} {after} ran T e =
        let whole = length_settled ks ran.last ran.done noted (length ks) in
        table_runs
        (subst (λ (o : Outcome). Answers o before (Ok ran.end) after) (sym T.ends)
        record { answer = refl; column = e ∙ sym (written_finished _ ran.end before (length ks) whole) })
