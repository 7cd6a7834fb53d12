-- The laws of walks at the run. In order: plain data; `reads`, a reading of a run that is lent, over the reading by
-- value; `moves`, a call on a run that is lent by `&mut`, over the call by value; `lends`, plain parameters above such a
-- call. Assumes nothing.
use Prim.Native.Nat.{ℕ}
use mathlib.Core.Path.{◌≡◌, refl, sym, subst}
use mathlib.Core.List.{[], ◌∷◌, List}
use seplogic.Ra.Ura.{Ura}
use mir.Syntax.{Callee as Name, Sym}
use base.Logic.{SProp}
use prog.Wp.{Closed}
use prog.Model.{Model}
use prog.Routine.{Routine, Env}
use types.Logic.{Logic}
use contract.Monad.{fact}
use contract.Running.{Running, tables}
use denote.Laws.{Is}
use denote.Struct.Laws as LL
use denote.Triple.Clauses.{closing}
use denote.Triple.Spec.{Meets}
use denote.Triple.Statement.{Triple}
use Rattle.rule.specs.Calls.{Call}
use Rattle.rule.specs.View.{MadeRun, Promised}
use Rattle.rule.specs.declared.Run.{Run}
use Rattle.rule.specs.contracts.Run as T
use Rattle.rule.proofs.Run.TheLaws as T'
use Rattle.rule.specs.contracts.Setup as P
use Rattle.rule.proofs.Setup.TheLaws as P'
use Rattle.walk_laws.proofs.Answered.{Answered, both, both_types}
use Rattle.walk_laws.proofs.Contracts.{ByValue, Lent, shared, shared_clauses}
use Rattle.walk_laws.proofs.Data.{Data, struct}
use Rattle.walk_laws.proofs.Parameters.{Values}
use Rattle.walk_laws.proofs.InPlace as in_place
use Rattle.walk_laws.proofs.Peek as peek
use Rattle.walk_laws.proofs.Through as through

-- ---- plain data

abbrev pub setup_given : Data
setup_given = struct P.the_type P'.the_laws P'.the_plain (λ x. tt) (λ x f. refl)

-- ---- readings

module _ (ps : List Data) (S : Data) (Said : Run → Values 0 tt ps → S.type.Denot → Type 0) {M : Type 1} {𝓤 : Ura M}
    (𝓛 : Logic 𝓤) (𝓜 : Model 𝓤 𝓛.H) (𝓡 : Running 𝓤 𝓛.H 𝓜) (need : Run → Values 0 tt ps → SProp 𝓤)
    (γ : Env) (name g : Name) where
  open 𝓛 use {H}

  pub reads : Closed 𝓤 H (tables 𝓤 H 𝓜 𝓡 γ).C (tables 𝓤 H 𝓜 𝓡 γ).Λ name
      (peek.function T.the_type T'.the_laws ps S Said g)
      → (r : Routine) → γ g ≡ r → Triple 𝓤 (𝓡.run r) (ByValue T.the_row ps S.type 𝓤 need Said 𝓛)
      → Meets 𝓛 (shared T.the_row ps S.type).signature (𝓡.run (γ name))
      (closing 𝓛 (shared T.the_row ps S.type) (shared_clauses T.the_row ps S.type 𝓤 need Said))
  reads = peek.thin T.the_type T'.the_laws ps S Said T'.the_plain T'.the_copy 𝓛 𝓜 𝓡 need γ name g

-- ---- calls

-- Over the call by value, whose result is P: `Promise h a n h'` is what both promise of the run h before, the
-- parameters a, the answer's number n and the run h' after.
module _ (ps : List Data) (P : Answered T.the_type T'.the_laws) (number : P.S.type.Denot → ℕ)
    (Promise : Run → Values 0 tt ps → ℕ → Run → Type 0) where
  abbrev Moves : Run → Values 0 tt ps → P.D.Denot → Type 0
  Moves h a d = Promise h a (number (P.answer d)) (P.next d)

  abbrev Leaves : Run → Values 0 tt ps → P.S.type.Denot → Run → Type 0
  Leaves h a s h' = Promise h a (number s) h'

  module _ {M : Type 1} {𝓤 : Ura M} (𝓛 : Logic 𝓤) (𝓜 : Model 𝓤 𝓛.H) (𝓡 : Running 𝓤 𝓛.H 𝓜)
      (need : Run → Values 0 tt ps → SProp 𝓤) (γ : Env) (name g : Name) where
    open 𝓛 use {H}

    pub moves : Closed 𝓤 H (tables 𝓤 H 𝓜 𝓡 γ).C (tables 𝓤 H 𝓜 𝓡 γ).Λ name
        (in_place.function T.the_type T'.the_laws ps P Moves Leaves g)
        → (r : Routine) → γ g ≡ r
        → Triple 𝓤 (𝓡.run r) (ByValue T.the_row ps P.D 𝓤 need Moves 𝓛)
        → Triple 𝓤 (𝓡.run (γ name)) (Lent T.the_row ps P.S.type 𝓤 need Leaves 𝓛)
    moves =
        in_place.thin T.the_type T'.the_laws ps P Moves Leaves T'.the_plain 𝓛 𝓜 𝓡 need (λ h a d e. e) γ name g

-- Plain parameters above a call c on a run that is lent, whatever its answer S: what is given back is made of the answer
-- and the run.
module _ (ps : List Data) (c : Values 0 tt ps → Call) (S D : Data) (ν : Sym)
    (make : S.type.Denot → Run → D.type.Denot) (number : S.type.Denot → ℕ)
    (answer : D.type.Denot → S.type.Denot) (run : D.type.Denot → Run)
    (answer_is : (s : S.type.Denot) (h : Run) → answer (make s h) ≡ s)
    (run_is : (s : S.type.Denot) (h : Run) → run (make s h) ≡ h) where
  abbrev Said : Run → Values 0 tt ps → D.type.Denot → Type 0
  Said h a d = Promised h (c a) (number (answer d)) (run d)

  abbrev Claim : Run → Values 0 tt ps → S.type.Denot → Run → Type 0
  Claim h a s h' = Promised h (c a) (number s) h'

  claims : (h : Run) (a : Values 0 tt ps) (s : S.type.Denot) (h' : Run) → Claim h a s h' → Said h a (make s h')
  claims h a s h' e =
      subst (λ (x : Run). Promised h (c a) (number (answer (make s h'))) x) (sym (run_is s h'))
      (subst (λ (x : S.type.Denot). Promised h (c a) (number x) h') (sym (answer_is s h')) e)

  module _ (mir_is : D.mir ≡ both_types T.the_type ν S)
      (val_is : (s : S.type.Denot) (h : Run) → D.val (make s h) ≡ both T.the_type T'.the_laws S s h)
      (make_is : (s : S.type.Denot) (h : Run) → Is S.type s (S.val s ∷ []) → Is T.the_row h (LL.vals T.the_type T'.the_laws h)
      → Is D.type (make s h) (D.val (make s h) ∷ []))
      {M : Type 1} {𝓤 : Ura M} (𝓛 : Logic 𝓤) (𝓜 : Model 𝓤 𝓛.H) (𝓡 : Running 𝓤 𝓛.H 𝓜)
      (γ : Env) (name g : Name) where
    open 𝓛 use {H}

    abbrev need : Run → Values 0 tt ps → SProp 𝓤
    need h a = fact 𝓤 (MadeRun h)

    pub lends : Closed 𝓤 H (tables 𝓤 H 𝓜 𝓡 γ).C (tables 𝓤 H 𝓜 𝓡 γ).Λ name
        (through.function T.the_type T'.the_laws ps S D ν make Said Claim g)
        → (r : Routine) → γ g ≡ r
        → Triple 𝓤 (𝓡.run r) (Lent T.the_row ps S.type 𝓤 need Claim 𝓛)
        → Triple 𝓤 (𝓡.run (γ name)) (ByValue T.the_row ps D.type 𝓤 need Said 𝓛)
    lends =
        through.thin T.the_type T'.the_laws ps S D ν make Said Claim
        T'.the_plain (λ x. tt) (λ x f. refl) mir_is val_is make_is
        𝓛 𝓜 𝓡 need claims γ name g
