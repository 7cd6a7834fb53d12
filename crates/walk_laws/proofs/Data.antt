-- Types of plain data, of one machine value each, with what a walk cites of them. In order: what such a type has;
-- unsigned integers, declared structs and enums of plain data as such types. Assumes nothing.
use mathlib.Core.Path.{◌≡◌, refl, subst, subst⁻¹}
use mathlib.Core.List.{[], ◌∷◌, List}
use seplogic.Ra.Ura.{Ura}
use lib.Dec.{T as Holds}
use mir.Syntax.{Ty, Width, ty_int}
use mir.Val.{Val, WT, has_ty, vint}
use base.Fml.{ftrue}
use types.Logic.{Logic}
use denote.RattleType.{RattleType}
use denote.Laws.{Is, Tells, Makes}
use denote.Steps.{only}
use denote.Exit.{Last, left, yes}
use denote.Plain.{UInt, uint_Tells, uint_Makes, uint_Lawful}
use denote.Struct.Struct.{Plains, layout}
use denote.Struct.Declared.{Declared, fields, shape, row}
use denote.Struct.Laws as LL
use denote.Enum.Declared as ED
use denote.Enum.Enum as EE
use denote.Enum.Laws as EL

pub record Data : Type 2 where
  pub type : RattleType
  pub mir : Ty
  -- the machine value, which the type tells, and which has the machine type
  pub val : type.Denot → Val
  pub tells : Tells type (Is type) (λ x. val x ∷ [])
  pub typed : {M : Type 1} {𝓤 : Ura M} (𝓛 : Logic 𝓤) → (x : type.Denot)
      → Is type x (val x ∷ []) → Holds (has_ty mir (val x)) × WT (val x)
  -- what a value owns is had for nothing
  pub makes : {M : Type 1} {𝓤 : Ura M} (𝓛 : Logic 𝓤) → Makes 𝓛 type (Is type)
  -- nothing is bound or said of a parameter of the type at exit
  pub last : (x : type.Denot) → Last (type.exit yes) x
  pub silent : (x : type.Denot) (f : Last (type.exit yes) x) → left (type.exit yes) x f ≡ ftrue

abbrev pub number : Width → Data
number w =
    record {
      type = UInt w;
      mir = ty_int w;
      val = vint w;
      tells = uint_Tells w;
      typed = λ 𝓛 x p. ((uint_Lawful 𝓛 w).typed x _ p).0;
      makes = λ 𝓛. uint_Makes 𝓛 w;
      last = λ x. tt;
      silent = λ x f. refl;
    }

-- of a type that is written out, the last two arguments are `λ x. tt` and `λ x f. refl`
abbrev pub struct : (T : Declared) → LL.Laws T → Plains (fields T)
    → (last : (x : T.D) → Last ((row T).exit yes) x)
    → ((x : T.D) (f : Last ((row T).exit yes) x) → left ((row T).exit yes) x f ≡ ftrue) → Data
struct T L plain last silent =
    record {
      type = row T;
      mir = layout (shape T);
      val = LL.val T L;
      tells = LL.tells T L;
      typed = λ 𝓛 x p. ((LL.lawful T L 𝓛).typed x _ p).0;
      makes = λ 𝓛. LL.makes T plain 𝓛;
      last = last;
      silent = silent;
    }

abbrev pub enum : (T : ED.Declared) → EL.Laws T → EE.Plainss (ED.variants T) → EE.Few (ED.shape T)
    → (last : (x : (ED.row T).Denot) → Last ((ED.row T).exit yes) x)
    → ((x : (ED.row T).Denot) (f : Last ((ED.row T).exit yes) x) → left ((ED.row T).exit yes) x f ≡ ftrue) → Data
enum T L plain few last silent =
    record {
      type = ED.row T;
      mir = EE.layout (ED.shape T);
      val = EL.val T L;
      tells = EL.tells T L;
      typed = λ 𝓛 x p. ((EL.lawful T L 𝓛 few).typed x _ p).0;
      makes = λ 𝓛. EL.makes T plain 𝓛;
      last = last;
      silent = silent;
    }

-- what is known at the machine value that a call gave is known at the one that the type tells
pub known_at : (R : Data) (x : R.type.Denot) (v : Val) → Is R.type x (v ∷ []) → Is R.type x (R.val x ∷ [])
known_at R x v is = subst (Is R.type x) (R.tells x (v ∷ []) is) is

-- at the machine value that a call gave
pub typed_at : (R : Data) {M : Type 1} {𝓤 : Ura M} (𝓛 : Logic 𝓤) → (x : R.type.Denot)
    (v : Val) → Is R.type x (v ∷ []) → Holds (has_ty R.mir v) × WT v
typed_at R 𝓛 x v is =
    subst⁻¹ (λ (us : List Val). Holds (has_ty R.mir (only us)) × WT (only us)) (R.tells x (v ∷ []) is)
    (R.typed 𝓛 x (known_at R x v is))
