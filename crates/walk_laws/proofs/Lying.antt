-- A state in memory, as a local of type τ has it, as a borrow has it: the type of the state and τ may differ in names
-- of lifetimes. In order: with what the state owns, in and out; of plain data, which owns nothing. Assumes nothing.
use Prim.Native.Nat.{ℕ}
use mathlib.Core.Path.{◌≡◌, refl, subst}
use mathlib.Core.List.{[], ◌∷◌, List}
use seplogic.Ra.Ura.{Ura}
use base.Fraction.{full_share}
use mir.Syntax.{Ty}
use mir.Raw.{raw}
use mir.Val.{Val}
use base.Logic.{ent, guard}
use base.Fml.{fsep, fat}
use types.Logic.{Logic, sem}
use types.Kit.{‵, ⋆, ◌$◌, ◌∵◌, !, qed, by, move, keep, drop, use1, check, fsplit, fjoin, fpick, fpack, done}
use denote.RattleType.{RattleType}
use denote.Laws.{Is, shows}
use denote.Memory.{mem, cell_at, part_of}
use denote.Steps.{owned, peeks}
use denote.Struct.Declared.{Declared, fields, shape, row}
use denote.Struct.Struct.{Plains, layout}
use denote.Struct.Steps.{spelt}
use denote.Struct.Laws as LL

module _ (T : Declared) (L : LL.Laws T) {M : Type 1} {𝓤 : Ura M} (𝓛 : Logic 𝓤) where
  open 𝓛 use {H}

  abbrev R : RattleType
  R = row T

  abbrev τR : Ty
  τR = layout (shape T)

  abbrev vals : T.D → List Val
  vals = LL.vals T L

  module _ (τ : Ty) (same : raw τ ≡ raw τR) (h : T.D) (b o : ℕ) where
    pub held_in : ent 𝓤 (⋆ 𝓛 (‵ (fat full_share τ b o (LL.val T L h)) ∷ ‵ (R.own_val h (vals h)) ∷ []))
        (sem 𝓛 ((mem R).own_at h b o))
    unfolding part_of
    held_in =
        qed 𝓛 (‵ (fat full_share τ b o (LL.val T L h)) ∷ ‵ (R.own_val h (vals h)) ∷ []) ∵
        use1 𝓛 (‵ (cell_at full_share R.mir (vals h) b o))
        (subst (λ (ρ : Ty). ent 𝓤 (H.at full_share τ b o (LL.val T L h)) (H.at full_share ρ b o (LL.val T L h))) same
        (𝓛.laws.at_raw full_share τ b o (LL.val T L h))) $ fjoin ! $
        fpack ! (List Val) (λ us. fsep (cell_at full_share R.mir us b o) (R.own_val h us)) (vals h) $ done !

    pub lies_out : ent 𝓤 (sem 𝓛 ((mem R).own_at h b o))
        (guard 𝓤 (Is R h (vals h)) (H.at full_share τ b o (LL.val T L h)))
    unfolding part_of
    lies_out =
        qed 𝓛 (‵ ((mem R).own_at h b o) ∷ []) ∵ fpick ! (λ vs. fsplit ! $
        spelt ! R (Is R) (shows 𝓛 R) vals (LL.tells T L) full_share h vs b o $ move ! (1 ∷ []) $
        peeks ! R (Is R) (shows 𝓛 R) h (vals h) (λ is. drop ! $
        use1 𝓛 (‵ (fat full_share τ b o (LL.val T L h)))
        (subst (λ (ρ : Ty). ent 𝓤 (H.at full_share ρ b o (LL.val T L h)) (H.at full_share τ b o (LL.val T L h))) same
        (𝓛.laws.raw_at full_share τ b o (LL.val T L h))) $ check ! is $ done !))

  pub lies_in : Plains (fields T) → (h : T.D) (b o : ℕ) → Is R h (vals h)
      → ent 𝓤 (H.at full_share τR b o (LL.val T L h)) (sem 𝓛 ((mem R).own_at h b o))
  lies_in plainR h b o is =
      qed 𝓛 (‵ (fat full_share τR b o (LL.val T L h)) ∷ []) ∵
      owned ! R (Is R) (LL.makes T plainR 𝓛) h _ is $ keep ! (1 ∷ 0 ∷ []) $ by ! (held_in τR refl h b o)
