-- Rows taken one after the other: what is known of every row's completion after the first i rows. In order: from a
-- fresh run; a refused row; one row more; all rows. Assumes nothing.
use Prim.Native.Nat.{ℕ, suc, ◌+◌, ◌≤◌, ◌<◌}
use mathlib.Core.Path.{◌≡◌, refl, sym, ap, ◌∙◌, subst}
use mathlib.Core.List.{List, [], ◌∷◌}
use native.Mathlib.Omega.{arith}
use native.Mathlib.Numerals.{add-one}
use native.Mathlib.Nat.{add-zero, zero-add}
use lib.ListN.{length, drop, set, replicate, length-set, drop_of_length-le}
use lib.Seq.{drop-cons, ext_get_or}
use borrow.Author.Tests.{eq-eqb, ne_eqb}
use Rattle.lists.specs.Lists.{at}
use Rattle.lists.proofs.Testing.{cond-true, cond-false, equal-or}
use Rattle.lists.proofs.Totals.{at_inside, at_replicate, at_set_same, at_set_other}
use Rattle.lists.specs.Lists.{Below}
use Rattle.rule.specs.State.{State}
use Rattle.rule.specs.Calls.{drained, Call, request, refusal, call, calls}
use Rattle.rule.specs.Table.{Outcome, refused, finished, completion, completions, unless_refused, outcome_from, rows}
use Rattle.rule.proofs.Table.{length_rows}
use Rattle.laws.proofs.Accepted.{request_done}
use Rattle.laws.proofs.Rows.{length_completions}
use Rattle.rows.specs.Promises.{settled_by, settled_column}
use Rattle.rows.proofs.Putting.{length_settled, at_settled}

-- the rows from row i on
abbrev pub from : List ℕ → List ℕ → List ℕ → ℕ → List Call
from ts ks ms i = rows (drop i ts) (drop i ks) (drop i ms)

-- After i rows: the state s, each task's last row, and the noted completions.
pub record RowsTaken (ts ks ms : List ℕ) (s₀ s : State) (last noted : List ℕ) (i n : ℕ) : Type 0 where
  pub fits : i ≤ length ts
  pub room : length noted ≡ n
  pub last32 : length last ≡ 32
  pub known : (j : ℕ) → j < i → at ks j < 32
  pub marks : (k : ℕ) → at last k ≤ i
  pub own : (k j : ℕ) → at last k ≡ j + 1 → at ks j ≡ k
  pub same : (o : Outcome) → unless_refused (i + 1) s (from ts ks ms i) o ≡ unless_refused 1 s₀ (rows ts ks ms) o
  pub ends : calls s (from ts ks ms i) ≡ calls s₀ (rows ts ks ms)
  pub rest : (m : ℕ) → at (completions s₀ (rows ts ks ms)) (i + m) ≡ at (completions s (from ts ks ms i)) m
  -- a row's completion is noted, or is still to come where the row is its task's last
  pub each : (j : ℕ) → j < i
      → at (completions s₀ (rows ts ks ms)) j
      ≡ settled_by last noted ks (completion s (at ks j) (from ts ks ms i)) j

-- ---- from a fresh run

pub taken_start : (ts ks ms : List ℕ) (s : State) (noted : List ℕ)
    → RowsTaken ts ks ms s s (replicate 32 0) noted 0 (length noted)
taken_start ts ks ms s noted =
    record {
      fits = omega arith;
      room = refl;
      last32 = refl;
      known = λ j h. absurd (omega arith);
      marks = λ k. omega (arith, at_replicate 32 k);
      own = λ k j e. absurd (omega (arith, at_replicate 32 k));
      same = λ o. refl;
      ends = refl;
      rest = λ m. ap (at (completions s (rows ts ks ms))) (zero-add m);
      each = λ j h. absurd (omega arith);
    }

-- ---- a refused row

module _ {ts ks ms : List ℕ} {s₀ s : State} {last noted : List ℕ} {i n : ℕ}
    (T : RowsTaken ts ks ms s₀ s last noted i n) (sameK : length ks ≡ length ts) (sameM : length ms ≡ length ts) where
  module _ (h : i < length ts) where
    abbrev row : Call
    row = request (at ts i) (at ks i) (at ms i)

    next_row : from ts ks ms i ≡ row ∷ from ts ks ms (i + 1)
    unfolding rows
    next_row =
        rw (add-one i, drop-cons ts i 0 h, drop-cons ks i 0 (omega arith), drop-cons ms i 0 (omega arith))

    pub taken_refused : (refusal s row ≡ 0 → ⊥) → outcome_from s₀ (rows ts ks ms) ≡ refused (refusal s row) (i + 1)
    unfolding outcome_from unless_refused
    taken_refused z =
        let o : Outcome = finished (completions s₀ (rows ts ks ms)) (drained (calls s₀ (rows ts ks ms))).clock in
        sym (T.same o) ∙ ap (λ (cs : List Call). unless_refused (i + 1) s cs o) next_row ∙ cond-false _ _ (ne_eqb _ 0 z)

    -- ---- one row more

    module _ (z : refusal s row ≡ 0) (small : at ks i < 32) (wide : length ts < n) where
      abbrev k : ℕ
      k = at ks i

      abbrev s' : State
      s' = call s row

      abbrev last' : List ℕ
      last' = set last k (i + 1)

      abbrev noted' : List ℕ
      noted' = set noted (at last k) (at s'.done k)

      abbrev C : List ℕ
      C = completions s₀ (rows ts ks ms)

      -- the rows that are left now, and after this one
      abbrev left : List Call
      left = from ts ks ms i

      abbrev left' : List Call
      left' = from ts ks ms (i + 1)

      comps : completions s left ≡ completion s' k left' ∷ completions s' left'
      unfolding completions
      comps = ap (completions s) next_row

      last_same : at last' k ≡ i + 1
      last_same = at_set_same last k (i + 1) (omega (arith, T.last32))

      last_other : (j : ℕ) → (j ≡ k → ⊥) → at last' j ≡ at last j
      last_other j f = at_set_other last k (i + 1) j f

      noted_other : (j : ℕ) → (at last k ≡ j → ⊥) → at noted' j ≡ at noted j
      noted_other j f = at_set_other noted (at last k) (at s'.done k) j (λ (e : j ≡ at last k). f (sym e))

      noted_same : (j : ℕ) → at last k ≡ j → at noted' j ≡ at s'.done k
      noted_same j e =
          ap (at noted') (sym e) ∙ at_set_same noted (at last k) (at s'.done k) (omega (arith, T.marks k, T.room))

      -- the task is requested again: its row before is done
      completion_again : completion s k left ≡ at s'.done k
      unfolding completion
      completion_again =
          ap (completion s k) next_row
          ∙ cond-true _ _ (eq-eqb k k refl)
          ∙ ap (λ (l : List ℕ). at l k) (sym (request_done s (at ts i) k (at ms i) z))

      completion_other : (j : ℕ) → (j ≡ k → ⊥) → completion s j left ≡ completion s' j left'
      unfolding completion
      completion_other j f = ap (completion s j) next_row ∙ cond-false _ _ (ne_eqb k j (λ (e : k ≡ j). f (sym e)))

      abbrev Row : ℕ → Type 0
      Row j = at C j ≡ settled_by last' noted' ks (completion s' (at ks j) left') j

      row_new : Row i
      row_new =
          ap (at C) (sym (add-zero i)) ∙ T.rest 0 ∙ ap (λ (l : List ℕ). at l 0) comps
          ∙ sym (cond-true _ _ (eq-eqb (at last' k) (i + 1) last_same))

      -- an earlier row of the same task
      row_same : (j : ℕ) → j < i → at ks j ≡ k → Row j
      row_same j g e =
          T.each j g
          ∙ equal-or (at last k) (j + 1)
          (λ (y : at last k ≡ j + 1).
          cond-true _ _ (eq-eqb (at last (at ks j)) (j + 1) (ap (at last) e ∙ y))
          ∙ ap (λ (m : ℕ). completion s m left) e
          ∙ completion_again
          ∙ sym (noted_same (j + 1) y))
          (λ (y : at last k ≡ j + 1 → ⊥).
          cond-false _ _ (ne_eqb (at last (at ks j)) (j + 1) (λ x. y (sym (ap (at last) e) ∙ x)))
          ∙ sym (noted_other (j + 1) y))
          ∙ sym (cond-false _ _ (ne_eqb (at last' (at ks j)) (j + 1) later))
        where
          later : at last' (at ks j) ≡ j + 1 → ⊥
          later x = let w : i + 1 ≡ j + 1 = sym last_same ∙ sym (ap (at last') e) ∙ x in omega arith

      -- a row of another task
      row_other : (j : ℕ) → j < i → (at ks j ≡ k → ⊥) → Row j
      row_other j g f =
          T.each j g
          ∙ cc (
            last_other (at ks j) f,
            completion_other (at ks j) f,
            noted_other (j + 1) (λ (y : at last k ≡ j + 1). f (T.own k j y)),
          )

      pub taken_step : RowsTaken ts ks ms s₀ s' last' noted' (i + 1) n
      unfolding unless_refused calls
      taken_step =
          record {
            fits = omega arith;
            room = length-set noted (at last k) (at s'.done k) ∙ T.room;
            last32 = length-set last k (i + 1) ∙ T.last32;
            known = λ j g. equal-or j i (λ (e : j ≡ i). rw e small) (λ (e : j ≡ i → ⊥). T.known j (omega arith));
            marks = λ m. equal-or m k (λ (e : m ≡ k). rw e (omega (arith, last_same)))
                (λ (e : m ≡ k → ⊥). omega (arith, last_other m e, T.marks m));
            own = λ m j e. equal-or m k (λ (f : m ≡ k). ap (at ks) (marked j (ap (at last') (sym f) ∙ e)) ∙ sym f)
                (λ (f : m ≡ k → ⊥). T.own m j (sym (last_other m f) ∙ e));
            same = λ o.
                sym (ap (λ (cs : List Call). unless_refused (i + 1) s cs o) next_row ∙ cond-true _ _ (eq-eqb _ 0 z))
                ∙ T.same o;
            ends = sym (ap (calls s) next_row) ∙ T.ends;
            rest = λ m. ap (at C) (later m) ∙ T.rest (suc m) ∙ ap (λ (l : List ℕ). at l (suc m)) comps;
            each = λ j g. equal-or j i (λ (e : j ≡ i). subst Row (sym e) row_new)
                (λ (e : j ≡ i → ⊥). equal-or (at ks j) k (row_same j (omega arith)) (row_other j (omega arith)));
          }
        where
          marked : (j : ℕ) → at last' k ≡ j + 1 → j ≡ i
          marked j w = omega (arith, last_same)

          later : (m : ℕ) → i + 1 + m ≡ i + suc m
          later m = omega arith

  -- ---- all rows

  module _ (h : length ts ≤ i) where
    whole : i ≡ length ks
    whole = omega (arith, T.fits)

    nothing_left : from ts ks ms i ≡ []
    unfolding rows
    nothing_left = rw (drop_of_length-le ts h)

    abbrev D : List ℕ
    D = completions s₀ (rows ts ks ms)

    column : D ≡ settled_column ks last (drained s).done noted
    unfolding completion
    column =
        let done = (drained s).done in
        let many : length D ≡ length ks =
        length_completions s₀ ts ks ms ∙ length_rows ts ks ms sameK sameM ∙ sym sameK in
        ext_get_or 0 D (settled_column ks last done noted)
        (many ∙ sym (length_settled ks last done noted (length ks)))
        (λ j g.
        T.each j (omega (arith, whole))
        ∙ ap (λ (cs : List Call). settled_by last noted ks (completion s (at ks j) cs) j) nothing_left
        ∙ sym (at_settled ks last done noted (length ks) j (omega arith)))

    pub taken_outcome : outcome_from s₀ (rows ts ks ms)
        ≡ finished (settled_column ks last (drained s).done noted) (drained s).clock
    unfolding outcome_from unless_refused calls
    taken_outcome =
        let o : Outcome = finished D (drained (calls s₀ (rows ts ks ms))).clock in
        let e : s ≡ calls s₀ (rows ts ks ms) = sym (ap (calls s) nothing_left) ∙ T.ends in
        sym (T.same o)
        ∙ ap (λ (cs : List Call). unless_refused (i + 1) s cs o) nothing_left
        ∙ ap (λ (x : State). finished D (drained x).clock) (sym e)
        ∙ ap (λ (l : List ℕ). finished l (drained s).clock) column

    pub taken_known : Below 32 ks
    taken_known k =
        equal-or (at ks k) 0
        (λ e. omega arith)
        (λ n. T.known k (omega (arith, whole, at_inside ks k (omega arith))))
