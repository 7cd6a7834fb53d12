-- "Given exactly when": each byte string is accepted, with one setup and one row list, or refused with one number and
-- block. Assumes nothing.
use Prim.Native.Nat.{ℕ}
use mathlib.Core.Path.{◌≡◌, refl, sym, ◌∙◌}
use mathlib.Core.List.{List}
use Rattle.rule.specs.Calls.{Call}
use Rattle.rule.specs.View.{Determined}
use Rattle.rule.specs.declared.Setup.{Setup}
use Rattle.judging.specs.Log.{Verdict, accepted, refused, judged, Reads}
use Rattle.judging.proofs.Accepted.{refused-not}
use Rattle.logs.specs.Records.{setup_of_lem, row_list}

-- what a byte string is: a log with its setup and its rows, or refused with a number and a block
pub data Content : Type 0 where
  holds : Setup → List Call → Content
  fails : ℕ → ℕ → Content

pub data Gives (log : List ℕ) : Content → Type 0 where
  given : {p : Setup} {cs : List Call} → Reads log → p ≡ setup_of_lem log → cs ≡ row_list log → Gives log (holds p cs)
  denied : {n i : ℕ} → judged log ≡ refused n i → Gives log (fails n i)

pub gives_determined : (log : List ℕ) → Determined (Gives log)
gives_determined log _ _ (given r p q) (given r' p' q') = cc
gives_determined log _ _ (given r p q) (denied e) = refused-not (sym e ∙ r)
gives_determined log _ _ (denied e) (given r p q) = refused-not (sym e ∙ r)
gives_determined log _ _ (denied {n = n} {i = i} e) (denied {n = m} {i = j} e') =
    let q : refused n i ≡ refused m j = sym e ∙ e' in cc

-- and there is one
pub content : List ℕ → Verdict → Content
content log accepted = holds (setup_of_lem log) (row_list log)
content log (refused n i) = fails n i

content_given : (log : List ℕ) (v : Verdict) → judged log ≡ v → Gives log (content log v)
unfolding content
content_given log accepted e = given e refl refl
content_given log (refused n i) e = denied e

pub gives_some : (log : List ℕ) → Gives log (content log (judged log))
gives_some log = content_given log (judged log) refl
