-- What a table gives: a refusal before the rows, the first refused row, or the column and the end. In order: refusals
-- before the rows, the outcome, the column, what an entry is. Assumes nothing.
use Prim.Native.Nat.{ℕ, zero, suc, ◌+◌, ◌-◌, ◌≤◌, ◌<◌}
use native.Mathlib.Omega.{arith}
use mathlib.Core.Path.{◌≡◌, refl, sym, ap, ◌∙◌}
use mathlib.Core.Logic.{◌⊎◌, inl, inr, ⊎_elim, ◌↔◌}
use mathlib.Core.List.{List, [], ◌∷◌, ◌++◌}
use lib.Dec.{eqb}
use lib.ListN.{length, take, drop, length-append, length-drop, get_or-append}
use lib.Seq.{get_or-drop, get_or-append-add, drop_at}
use borrow.Author.Tests.{eqb-true, eqb-false, ltb-false, eq-eqb, ne_eqb, le-ltb}
use Rattle.lists.specs.Lists.{at}
use Rattle.lists.proofs.Testing.{tested, cond-true, cond-false, and_true, passed, passed_not}
use Rattle.lists.proofs.Totals.{at_set_same}
use Rattle.rule.specs.Setups.{setup_refusal_lem}
use Rattle.rule.specs.State.{State, fresh}
use Rattle.rule.specs.Calls.{moved, drained, opened, Call, request, refusal, effect, call, calls}
use Rattle.rule.specs.Table.{Outcome, refused, finished, completions, unless_refused, outcome_from, rows, most_rows}
use Rattle.rule.specs.Table.{column_refusal_lem, table_refusal, table_from, table, written}
use Rattle.rule.specs.declared.Setup.{Setup}
use Rattle.laws.specs.Sound.{Sound}
use Rattle.laws.specs.Sequences.{AllAccepted}
use Rattle.laws.specs.During.{ClosesAt}
use Rattle.laws.specs.Rows.{Tabled, FirstRefused, Comes, before_rows, at_row, to_the_end}
use Rattle.laws.proofs.Accepted.{request_accepted, accepted_acts}
use Rattle.laws.proofs.Sound.{moved_sound}
use Rattle.laws.proofs.Made.{call_sound}
use Rattle.laws.proofs.During.{closes}

-- ---- refusals before the rows

pub table_tabled : (p : Setup) (times tasks amounts room : ℕ) → table_refusal p times tasks amounts room ≡ 0
    → Tabled p times tasks amounts room
unfolding table_refusal column_refusal_lem
table_tabled p times tasks amounts room e =
    tested (eqb (setup_refusal_lem p) 0)
    (λ f.
    let p1 = passed_not _ 19 _ (rw f at e) in
    let p2 = passed _ 20 _ p1.1 in
    let p3 = passed _ 21 _ p2.1 in
    let lengths = and_true (eqb tasks times) (eqb amounts times) p1.0 in
    record {
      fitted =
          record {
            setup = eqb-true (setup_refusal_lem p) 0 f;
            tasks_equal = eqb-true tasks times lengths.0;
            amounts_equal = eqb-true amounts times lengths.1;
            few = ltb-false most_rows times p2.0;
          };
      fits = ltb-false room times p3.0;
    })
    (λ f. absurd (eqb-false (setup_refusal_lem p) 0 f (rw f at e)))

pub table_exact : (p : Setup) (times tasks amounts room : ℕ)
    → (table_refusal p times tasks amounts room ≡ 0) ↔ Tabled p times tasks amounts room
unfolding table_refusal column_refusal_lem
table_exact p times tasks amounts room = (
  table_tabled p times tasks amounts room,
  λ h. rw (
    eq-eqb (setup_refusal_lem p) 0 h.fitted.setup,
    eq-eqb tasks times h.fitted.tasks_equal,
    eq-eqb amounts times h.fitted.amounts_equal,
    le-ltb most_rows times h.fitted.few,
    le-ltb room times h.fits,
  ),
)

pub table_refusal_setup : (p : Setup) (times tasks amounts room : ℕ) → (setup_refusal_lem p ≡ 0 → ⊥)
    → table_refusal p times tasks amounts room ≡ setup_refusal_lem p
unfolding table_refusal
table_refusal_setup p times tasks amounts room z = cond-false _ _ (ne_eqb (setup_refusal_lem p) 0 z)

pub table_refusal_columns : (p : Setup) (times tasks amounts room : ℕ) → setup_refusal_lem p ≡ 0
    → table_refusal p times tasks amounts room ≡ column_refusal_lem times tasks amounts room
unfolding table_refusal
table_refusal_columns p times tasks amounts room z = cond-true _ _ (eq-eqb (setup_refusal_lem p) 0 z)

-- ---- the outcome

unless_accepted : (i : ℕ) (s : State) (cs : List Call) (o : Outcome) → AllAccepted s cs → unless_refused i s cs o ≡ o
unfolding AllAccepted unless_refused
unless_accepted i s [] o h = refl
unless_accepted i s (c ∷ cs) o h =
    cond-true _ _ (eq-eqb (refusal s c) 0 h.0) ∙ unless_accepted (i + 1) (call s c) cs o h.1

-- all calls are accepted, or one is the first that is not
unless_decided : (i : ℕ) (s : State) (cs : List Call) (o : Outcome)
    → AllAccepted s cs ⊎ ((n : ℕ) × (j : ℕ) × FirstRefused s cs n j × (unless_refused i s cs o ≡ refused n (i + j)))
unfolding AllAccepted unless_refused calls
unless_decided i s [] o = inl tt
unless_decided i s (c ∷ cs) o =
    tested (eqb (refusal s c) 0)
    (λ e.
    ⊎_elim
    (λ h. inl (eqb-true (refusal s c) 0 e, h))
    (λ w. inr (
      w.0,
      suc w.1,
      record {
        before = c ∷ w.2.before;
        culprit = w.2.culprit;
        after = w.2.after;
        parts = ap (λ (l : List Call). c ∷ l) w.2.parts;
        place = ap suc w.2.place;
        accepted = (eqb-true (refusal s c) 0 e, w.2.accepted);
        number = w.2.number;
        wrong = w.2.wrong;
      },
      cond-true _ _ e ∙ w.3 ∙ ap (λ (m : ℕ). refused w.0 m) (omega arith),
    ))
    (unless_decided (i + 1) (call s c) cs o))
    (λ e. inr (
      refusal s c,
      0,
      record {
        before = [];
        culprit = c;
        after = cs;
        parts = refl;
        place = refl;
        accepted = tt;
        number = refl;
        wrong = eqb-false (refusal s c) 0 e;
      },
      cond-false _ _ e ∙ ap (λ (m : ℕ). refused (refusal s c) m) (omega arith),
    ))

-- finished with all calls accepted, or refused with the first refused call, counted from 1
pub calls_outcome : (s : State) (cs : List Call)
    → (AllAccepted s cs × (outcome_from s cs ≡ finished (completions s cs) (drained (calls s cs)).clock))
    ⊎ ((n : ℕ) × (j : ℕ) × FirstRefused s cs n j × (outcome_from s cs ≡ refused n (1 + j)))
unfolding outcome_from
calls_outcome s cs =
    let o : Outcome = finished (completions s cs) (drained (calls s cs)).clock in
    ⊎_elim (λ h. inl (h, unless_accepted 1 s cs o h)) (λ w. inr w) (unless_decided 1 s cs o)

from_outcome : (n : ℕ) (p : Setup) (cs : List Call) → Comes p cs n (table_from n p cs)
unfolding table_from
from_outcome n p cs =
    tested (eqb n 0)
    (λ e.
    ⊎_elim
    (λ w. to_the_end (eqb-true n 0 e) w.0 (cond-true _ _ e ∙ w.1))
    (λ w. at_row w.0 w.1 (eqb-true n 0 e) w.2 (cond-true _ _ e ∙ w.3))
    (calls_outcome (fresh p) cs))
    (λ e. before_rows (eqb-false n 0 e) (cond-false _ _ e))

pub table_outcome : (p : Setup) (ts ks ms : List ℕ) (room : ℕ)
    → Comes p (rows ts ks ms) (table_refusal p (length ts) (length ks) (length ms) room) (table p ts ks ms room)
unfolding table
table_outcome p ts ks ms room =
    from_outcome (table_refusal p (length ts) (length ks) (length ms) room) p (rows ts ks ms)

-- refused before the rows, or the outcome of the rows
module _ (p : Setup) (ts ks ms : List ℕ) (room : ℕ) where
  pub table_refused : (n : ℕ) → table_refusal p (length ts) (length ks) (length ms) room ≡ n → (n ≡ 0 → ⊥)
      → table p ts ks ms room ≡ refused n 0
  unfolding table table_from
  table_refused n e z = ap (λ (m : ℕ). table_from m p (rows ts ks ms)) e ∙ cond-false _ _ (ne_eqb n 0 z)

  pub table_accepted : Tabled p (length ts) (length ks) (length ms) room
      → table p ts ks ms room ≡ outcome_from (fresh p) (rows ts ks ms)
  unfolding table table_from
  table_accepted q = cond-true _ _ (eq-eqb _ 0 ((table_exact p (length ts) (length ks) (length ms) room).1 q))

-- ---- the column

-- one entry a row, so that the column keeps its length
pub length_completions : (s : State) (ts ks ms : List ℕ)
    → length (completions s (rows ts ks ms)) ≡ length (rows ts ks ms)
unfolding completions rows
length_completions s [] ks ms = refl
length_completions s (t ∷ ts) [] ms = refl
length_completions s (t ∷ ts) (k ∷ ks) [] = refl
length_completions s (t ∷ ts) (k ∷ ks) (m ∷ ms) = ap suc (length_completions (call s (request t k m)) ts ks ms)

pub length_written : (ts : List ℕ) (end : ℕ) (column : List ℕ) → length ts ≤ length column
    → length (written (finished ts end) column) ≡ length column
unfolding written
length_written ts end column h = simp (length-append, length-drop) (omega arith)

pub written_row : (ts : List ℕ) (end : ℕ) (column : List ℕ) (i : ℕ) → i < length ts
    → at (written (finished ts end) column) i ≡ at ts i
unfolding written
written_row ts end column i h = get_or-append ts (drop (length ts) column) 0 i h

pub written_past : (ts : List ℕ) (end : ℕ) (column : List ℕ) (i : ℕ) → length ts ≤ i
    → at (written (finished ts end) column) i ≡ at column i
unfolding written
written_past ts end column i h =
    let e : i ≡ length ts + (i - length ts) = omega arith in
    ap (at (ts ++ drop (length ts) column)) e
    ∙ get_or-append-add ts (drop (length ts) column) (i - length ts) 0
    ∙ get_or-drop (length ts) column (i - length ts) 0
    ∙ ap (at column) (sym e)

-- an outcome whose rows are counted writes just these, and a refusal nothing
pub written_finished : (ts : List ℕ) (end : ℕ) (column : List ℕ) (n : ℕ) → length ts ≡ n
    → written (finished ts end) column ≡ ts ++ drop n column
unfolding written
written_finished ts end column n e = ap (λ (m : ℕ). ts ++ drop m column) e

pub written_refused : (n i : ℕ) (column : List ℕ) → written (refused n i) column ≡ column
unfolding written
written_refused n i column = refl

-- entries past the rows stay
pub drop_written : (ts : List ℕ) (end : ℕ) (column : List ℕ)
    → drop (length ts) (written (finished ts end) column) ≡ drop (length ts) column
unfolding written
drop_written ts end column = drop_at ts (drop (length ts) column) (length ts) refl

-- ---- what an entry is

-- an accepted request opens its task
row_open : (s : State) (t k m : ℕ) → Sound s → refusal s (request t k m) ≡ 0
    → 0 < at (call s (request t k m)).owed k
unfolding refusal effect opened
row_open s t k m h z =
    let q = request_accepted s t k m z in
    let g : Sound (moved s t) = moved_sound s t h in
    omega (
      arith,
      q.some,
      ap (λ (r : State). at r.owed k) (accepted_acts s (request t k m) z),
      at_set_same (moved s t).owed k m (omega (arith, q.task, h.few, g.owed32)),
    )

-- Entry i is the first instant at which row i's request is no longer open, where all rows are accepted: from the
-- state just after the row, with the rows behind it to come.
pub row_closes : (s : State) (ts ks ms : List ℕ) (i : ℕ) → Sound s → AllAccepted s (rows ts ks ms)
    → i < length (rows ts ks ms)
    → ClosesAt (calls s (take (suc i) (rows ts ks ms))) (at ks i) (drop (suc i) (rows ts ks ms))
    (at (completions s (rows ts ks ms)) i)
unfolding rows calls completions AllAccepted
row_closes s [] ks ms i h a b = absurd (omega arith)
row_closes s (t ∷ ts) [] ms i h a b = absurd (omega arith)
row_closes s (t ∷ ts) (k ∷ ks) [] i h a b = absurd (omega arith)
row_closes s (t ∷ ts) (k ∷ ks) (m ∷ ms) zero h a b =
    let c : Call = request t k m in
    closes (rows ts ks ms) (call s c) k (call_sound s c h) (row_open s t k m h a.0) a.1
row_closes s (t ∷ ts) (k ∷ ks) (m ∷ ms) (suc i) h a b =
    row_closes (call s (request t k m)) ts ks ms i (call_sound s (request t k m) h) a.1 (omega arith)
