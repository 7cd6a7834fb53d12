-- The completions put into the result column. In order: the completions of the first rows; the column with them in
-- front. Assumes nothing.
use Prim.Native.Nat.{ℕ, zero, suc, ◌+◌, ◌≤◌, ◌<◌}
use mathlib.Core.Path.{◌≡◌, refl, sym, ap, ◌∙◌}
use mathlib.Core.List.{List, [], ◌∷◌, ◌++◌, append_assoc}
use native.Mathlib.Omega.{arith}
use native.Mathlib.Numerals.{add-one}
use lib.ListN.{length, drop, set, length-append, length-drop, length-set, get_or-append}
use lib.Seq.{drop-cons, set_at, get_or_at}
use Rattle.lists.specs.Lists.{at}
use Rattle.lists.proofs.Testing.{equal-or}
use Rattle.rows.specs.Promises.{settled, settled_rows}

-- ---- the first rows

module _ (ks last done noted : List ℕ) where
  abbrev rows : ℕ → List ℕ
  rows n = settled_rows ks last done noted n

  abbrev row : ℕ → ℕ
  row j = settled ks last done noted j

  pub length_settled : (n : ℕ) → length (rows n) ≡ n
  unfolding settled_rows
  length_settled zero = refl
  length_settled (suc n) = omega (arith, length-append (rows n) (row n ∷ []), length_settled n)

  pub at_settled : (n j : ℕ) → j < n → at (rows n) j ≡ row j
  unfolding settled_rows
  at_settled zero j h = absurd (omega arith)
  at_settled (suc n) j h =
      equal-or j n
      (λ (e : j ≡ n). rw e (get_or_at (rows n) (row n) [] 0 n (length_settled n)))
      (λ (f : j ≡ n → ⊥).
      get_or-append (rows n) (row n ∷ []) 0 j (omega (arith, length_settled n)) ∙ at_settled n j (omega arith))

  -- ---- the column

  -- the completions of the first n rows, and behind them the column as it was
  abbrev put : List ℕ → ℕ → List ℕ
  put before n = rows n ++ drop n before

  pub length_put : (before after : List ℕ) (n : ℕ) → after ≡ put before n → n ≤ length before
      → length after ≡ length before
  length_put before after n e h =
      omega (arith, ap length e, length-append (rows n) (drop n before), length-drop n before, length_settled n)

  put_next : (before : List ℕ) (n : ℕ) → n < length before → set (put before n) n (row n) ≡ put before (n + 1)
  unfolding settled_rows
  put_next before n h =
      ap (λ (l : List ℕ). set (rows n ++ l) n (row n)) (drop-cons before n 0 h)
      ∙ set_at (rows n) (at before n) (drop (suc n) before) (row n) n (length_settled n)
      ∙ sym (append_assoc (rows n) (row n ∷ []) (drop (suc n) before))
      ∙ ap (put before) (sym (add-one n))

-- The first i entries are written.
pub record Putting (ks last done noted before after : List ℕ) (i : ℕ) : Type 0 where
  pub fits : i ≤ length ks
  pub room : length after ≡ length before
  pub column : after ≡ put ks last done noted before i

pub putting_start : (ks last done noted before : List ℕ) → Putting ks last done noted before before 0
unfolding settled_rows
putting_start ks last done noted before = record { fits = omega arith; room = refl; column = refl }

module _ {ks last done noted before after : List ℕ} {i : ℕ} (P : Putting ks last done noted before after i) where
  pub putting_step : {v : ℕ} → v ≡ settled ks last done noted i → i < length ks → length ks ≤ length before
      → Putting ks last done noted before (set after i v) (i + 1)
  putting_step {v} e h w =
      record {
        fits = omega arith;
        room = length-set after i v ∙ P.room;
        column = rw (e, P.column) (put_next ks last done noted before i (omega arith));
      }

  pub putting_end : length ks ≤ i → after ≡ put ks last done noted before (length ks)
  putting_end h = let e : i ≡ length ks = omega (arith, P.fits) in P.column ∙ ap (put ks last done noted before) e
