-- The text of a table that was run, from what `table` promises. In order: what an answer tells of the outcome; the
-- table of columns that fit is the outcome of its rows; the result column; the two texts. Assumes nothing.
use Prim.Native.Nat.{ℕ, ◌≤◌}
use native.Mathlib.Omega.{arith}
use mathlib.Core.Path.{◌≡◌, sym, ap, ◌∙◌, subst}
use mathlib.Core.Logic.{⊎_elim}
use mathlib.Core.List.{List, ◌++◌}
use lib.ListN.{length, take, drop, length-append}
use lib.Seq.{length-take-le, take_at}
use Rattle.std.specs.Prelude.{Result}
use Rattle.rule.specs.State.{fresh}
use Rattle.rule.specs.Table.{Outcome, refused, finished, completions, outcome_from, most_rows}
use Rattle.rule.specs.Table.{rows, table, written}
use Rattle.rule.specs.declared.Setup.{Setup}
use Rattle.laws.specs.Rows.{Tabled}
use Rattle.rule.proofs.Table.{length_rows}
use Rattle.laws.proofs.Rows.{calls_outcome, length_completions, table_accepted}
use Rattle.requests.specs.declared.Columns.{Columns}
use Rattle.table.specs.Answers.{Answers, AnswersTable, answer_of}
use Rattle.table.specs.Numbers.{ended, refused_at, table_told}
use Rattle.table.specs.declared.TableRefusal.{TableRefusal}
use Rattle.text.specs.Text.{table_text, columns_text, refused_line, most_lines}
use Rattle.text.proofs.Columns.{columns_text_fit}
use Rattle.report.specs.Report.{table_printed}

-- the setup that is asked for is the table's
pub same_table : {p q : Setup} (c : Columns) {before : List ℕ} {r : Result ℕ TableRefusal} {after : List ℕ} → q ≡ p
    → AnswersTable q c before r after → AnswersTable p c before r after
same_table {p} {q} c {before} {r} {after} e h = subst (λ (x : Setup). AnswersTable x c before r after) e h

-- ---- what an answer tells of the outcome

refused_is : {n i : ℕ} (o : Outcome) → refused_at n i ≡ answer_of o → o ≡ refused n i
refused_is (finished ds m) e = let z : ◌≡◌ {A = ℕ} 0 1 = cc in absurd (omega arith)
refused_is (refused m j) e = cc

-- a finished outcome
pub record Ends (o : Outcome) (end : ℕ) : Type 0 where
  pub dones : List ℕ
  pub outcome : o ≡ finished dones end

ends : {end : ℕ} (o : Outcome) → ended end ≡ answer_of o → Ends o end
ends (finished ds m) e = record { dones = ds; outcome = cc }
ends (refused m j) e = let z : ◌≡◌ {A = ℕ} 0 1 = cc in absurd (omega arith)

module _ (p : Setup) (ts ks ms : List ℕ) (tabled : Tabled p (length ts) (length ks) (length ms) most_rows) where
  abbrev o : Outcome
  o = outcome_from (fresh p) (rows ts ks ms)

  -- ---- columns that fit

  table_is : table p ts ks ms most_rows ≡ o
  table_is = table_accepted p ts ks ms most_rows tabled

  -- ---- the result column

  many : (ds : List ℕ) (end : ℕ) → o ≡ finished ds end → length ds ≡ length ts
  many ds end e =
      ⊎_elim
      (λ w.
      let same : completions (fresh p) (rows ts ks ms) ≡ ds = first w.1 in
      ap length (sym same)
      ∙ length_completions (fresh p) ts ks ms
      ∙ length_rows ts ks ms tabled.fitted.tasks_equal tabled.fitted.amounts_equal)
      (λ w. absurd (other w.3))
      (calls_outcome (fresh p) (rows ts ks ms))
    where
      first : {cs : List ℕ} {n : ℕ} → o ≡ finished cs n → cs ≡ ds
      first g = cc

      other : {n i : ℕ} → o ≡ refused n i → ⊥
      other g = let y : ◌≡◌ {A = ℕ} 0 1 = cc in omega arith

  module _ (before after : List ℕ) (room : length before ≡ most_rows) (r : Result ℕ TableRefusal)
      (A : Answers (table p ts ks ms (length before)) before r after) where
    answered : Answers o before r after
    answered = subst (λ (x : Outcome). Answers x before r after) (ap (table p ts ks ms) room ∙ table_is) A

    -- ---- a refused row

    pub text_refused : (n i : ℕ) → refused_at n i ≡ table_told r → refused_line n i ≡ table_printed ts ks ms o
    unfolding table_printed
    text_refused n i e = ap (table_printed ts ks ms) (sym (refused_is o (e ∙ answered.answer)))

    -- ---- a finished table

    module _ (end : ℕ) (e : ended end ≡ table_told r) where
      pub dones : List ℕ
      dones = (ends o (e ∙ answered.answer)).dones

      pub outcome : o ≡ finished dones end
      unfolding dones
      outcome = (ends o (e ∙ answered.answer)).outcome

      pub column : after ≡ dones ++ drop (length dones) before
      unfolding written
      column = answered.column ∙ ap (λ (x : Outcome). written x before) outcome

      as_many : length dones ≡ length ts
      as_many = many dones end outcome

      pub after_room : length ts ≤ length after
      after_room = omega (arith, ap length column, length-append dones (drop (length dones) before), as_many)

      pub after_part : length ts ≡ length (take (length ts) after)
      after_part = sym (length-take-le (length ts) after after_room)

      pub text_finished : columns_text ks ts ms (take (length ts) after) end ≡ table_printed ts ks ms o
      unfolding table_printed
      text_finished =
          let few : length ks ≤ most_lines = omega (arith, tabled.fitted.tasks_equal, tabled.fitted.few) in
          let asked = sym tabled.fitted.tasks_equal in
          let amounts = tabled.fitted.amounts_equal ∙ asked in
          let done = sym after_part ∙ asked in
          let front : take (length ts) after ≡ dones =
          ap (take (length ts)) column ∙ take_at dones (drop (length dones) before) (length ts) as_many in
          columns_text_fit ks ts ms (take (length ts) after) end few asked amounts done
          ∙ ap (λ (l : List ℕ). table_text ks ts ms l end) front
          ∙ ap (table_printed ts ks ms) (sym outcome)
