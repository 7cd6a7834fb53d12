-- A struct of plain data with two fields, an answer and a next state, as a call by value returns it: with what a walk
-- cites of it. Assumes nothing.
use mathlib.Core.List.{[], ◌∷◌}
use seplogic.Ra.Ura.{Ura}
use lib.Dec.{T as Holds}
use mir.Syntax.{Sym, Ty, ty_struct, tcons, tnil}
use mir.Val.{Val, WT, has_ty, vstruct, vcons, vnil}
use types.Logic.{Logic}
use denote.RattleType.{RattleType}
use denote.Laws.{Is, Tells}
use denote.Struct.Declared.{Declared, shape, row}
use denote.Struct.Struct.{layout}
use denote.Struct.Laws as LL
use Rattle.walk_laws.proofs.Data.{Data}

-- the machine's type and value
abbrev pub both_types : Declared → Sym → Data → Ty
both_types T ν S = ty_struct ν (tcons S.mir (tcons (layout (shape T)) tnil))

abbrev pub both : (T : Declared) (L : LL.Laws T) (S : Data) → S.type.Denot → T.D → Val
both T L S s h = vstruct (vcons (S.val s) (vcons (LL.val T L h) vnil))

-- D is the struct, ν its name, S the answer's type; the state is T's
pub record Answered (T : Declared) (L : LL.Laws T) : Type 2 where
  pub S : Data
  pub D : RattleType
  pub ν : Sym
  pub answer : D.Denot → S.type.Denot
  pub next : D.Denot → T.D
  pub tells : Tells D (Is D) (λ d. both T L S (answer d) (next d) ∷ [])
  pub answer_is : (d : D.Denot) → Is D d (both T L S (answer d) (next d) ∷ [])
      → Is S.type (answer d) (S.val (answer d) ∷ [])
  pub next_is_lem : (d : D.Denot) → Is D d (both T L S (answer d) (next d) ∷ [])
      → Is (row T) (next d) (LL.vals T L (next d))
  pub typed : {M : Type 1} {𝓤 : Ura M} (𝓛 : Logic 𝓤) → (d : D.Denot)
      → Is D d (both T L S (answer d) (next d) ∷ [])
      → Holds (has_ty (both_types T ν S) (both T L S (answer d) (next d))) × WT (both T L S (answer d) (next d))
