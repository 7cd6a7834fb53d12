-- Further parameters of a function, plain data each, as one list: so a law of walks is said once for any number of
-- them. In order: the list in a signature of n lifetimes, its values, what they own, and how they leave; the values
-- in one signature as those in another. Assumes nothing.
use Prim.Native.Nat.{ℕ}
use mathlib.Core.Path.{◌≡◌, refl, ap, sym, subst}
use mathlib.Core.List.{List, [], ◌∷◌}
use seplogic.Ra.Ura.{Ura}
use mir.Val.{Val}
use base.Logic.{ent, emp}
use base.Fml.{Fml, fsep}
use types.Logic.{Logic, sem}
use contract.Lifetimes.{Lfts}
use denote.RattleType.{RattleType, Denots, Valss, flat, owns}
use denote.Laws.{Ises, Are, Spells, valss, Tellss, Makess, owns_make}
use denote.Signature.{Slot, plain, types_at}
use denote.Triple.End.{Kepts, Fins}
use denote.Triple.Walked.{Stays, stay_none, fits_of, has_of, AllGo, Goes-none}
use denote.Exit.{yes}
use Rattle.walk_laws.proofs.Data.{Data}

-- ---- the list in a signature

module _ (n : ℕ) where
  abbrev pub slots : List Data → List (Slot n)
  slots [] = []
  slots (p ∷ ps) = plain (λ _. p.type) ∷ slots ps

  abbrev pub kept : (ps : List Data) → Kepts (slots ps)
  kept [] = tt
  kept (p ∷ ps) = (yes, kept ps)

  abbrev pub stay : (ps : List Data) → Stays (slots ps) (kept ps)
  stay [] = tt
  stay (p ∷ ps) = (stay_none (λ _. p.type) yes, stay ps)

  module _ (κs : Lfts n) where
    abbrev pub rows : List Data → List RattleType
    rows ps = types_at (slots ps) κs

    abbrev pub Values : List Data → Type 0
    Values ps = Denots (rows ps)

    abbrev pub spells : (ps : List Data) → Spells (rows ps)
    spells [] = tt
    spells (p ∷ ps) = ((λ x. p.val x ∷ []), spells ps)

    abbrev pub tell : (ps : List Data) → Tellss (rows ps) (Ises (rows ps)) (spells ps)
    tell [] = tt
    tell (p ∷ ps) = (p.tells, tell ps)

    -- the machine values, one list a parameter, and in a row
    abbrev pub lists : (ps : List Data) → Values ps → Valss (rows ps)
    lists ps a = valss (rows ps) (spells ps) a

    abbrev pub machine : (ps : List Data) → Values ps → List Val
    machine ps a = flat (rows ps) (lists ps a)

    abbrev pub Known : (ps : List Data) → Values ps → Type 0
    Known ps a = Are (rows ps) (Ises (rows ps)) a (lists ps a)

    -- at exit
    abbrev pub finals : (ps : List Data) (a : Values ps) → Fins κs (slots ps) (kept ps) a
    finals [] a = tt
    finals (p ∷ ps) a = (p.last a.0, finals ps a.1)

    abbrev pub fits : (ps : List Data) (a : Values ps) → fits_of κs (slots ps) (kept ps) (stay ps) a (finals ps a)
    fits [] a = tt
    fits (p ∷ ps) a = (tt, fits ps a.1)

    has_owns : (ps : List Data) (a : Values ps)
        → has_of κs (slots ps) (kept ps) (stay ps) a (finals ps a) (lists ps a) ≡ owns (rows ps) a (lists ps a)
    has_owns [] a = refl
    has_owns (p ∷ ps) a = ap (fsep (p.type.own_val a.0 (p.val a.0 ∷ []))) (has_owns ps a.1)

    module _ {M : Type 1} {𝓤 : Ura M} (𝓛 : Logic 𝓤) where
      make : (ps : List Data) → Makess 𝓛 (rows ps) (Ises (rows ps))
      make [] = tt
      make (p ∷ ps) = (p.makes 𝓛, make ps)

      -- what the values own is had for nothing, on entry and at exit
      pub made : (ps : List Data) (a : Values ps) → Known ps a
          → ent 𝓤 (emp 𝓤) (sem 𝓛 (owns (rows ps) a (lists ps a)))
      made ps a is = owns_make 𝓛 (rows ps) (Ises (rows ps)) (make ps) a (lists ps a) is

      pub had : (ps : List Data) (a : Values ps) → Known ps a
          → ent 𝓤 (emp 𝓤) (sem 𝓛 (has_of κs (slots ps) (kept ps) (stay ps) a (finals ps a) (lists ps a)))
      had ps a is = subst (λ (F : Fml). ent 𝓤 (emp 𝓤) (sem 𝓛 F)) (sym (has_owns ps a)) (made ps a is)

  module _ {M : Type 1} {𝓤 : Ura M} (𝓛 : Logic 𝓤) where
    pub goes : (ps : List Data) → AllGo 𝓛 n (slots ps) (kept ps) (stay ps)
    goes [] = tt
    goes (p ∷ ps) = (Goes-none 𝓛 n (λ _. p.type) yes (λ κs. p.silent), goes ps)

-- ---- from one signature to another

module _ (n m : ℕ) (κs : Lfts n) (κs' : Lfts m) where
  abbrev pub across : (ps : List Data) → Values n κs ps → Values m κs' ps
  across [] a = tt
  across (p ∷ ps) a = (a.0, across ps a.1)

  pub known_across : (ps : List Data) (a : Values n κs ps) → Known n κs ps a → Known m κs' ps (across ps a)
  known_across [] a is = tt
  known_across (p ∷ ps) a is = (is.0, known_across ps a.1 is.1)

-- there and back
pub across_back : (n m : ℕ) (κs : Lfts n) (κs' : Lfts m) (ps : List Data) (a : Values n κs ps)
    → across m n κs' κs ps (across n m κs κs' ps a) ≡ a
across_back n m κs κs' [] a = refl
across_back n m κs κs' (p ∷ ps) a = ap (λ (b : Values n κs ps). (a.0, b)) (across_back n m κs κs' ps a.1)
