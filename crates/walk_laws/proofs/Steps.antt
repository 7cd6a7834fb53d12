-- Two steps that walks share: what a call for a lifetime gives is heard; a local is emptied and freed. Assumes nothing.
use mathlib.Core.Path.{◌≡◌, subst}
use Prim.Native.Nat.{ℕ, zero}
use mathlib.Core.List.{List, [], ◌∷◌}
use seplogic.Ra.Ura.{Ura}
use base.Fraction.{full_share}
use mir.Syntax.{Ty}
use mir.Val.{Val}
use base.Logic.{SProp, ent, sep, via, mono_l, mono_r, assoc', id⊢}
use base.Fml.{Lft, Share, ftrue, flft, fat, fdies}
use prog.Wp.{Env}
use types.Logic.{Logic}
use contract.Monad.{fact}
use types.Kit.{Item, ‵, raw, ◌⊛◌, some, later, mean, ⋆, nth, del, pull, Goal, Soaks, frees, Seq, Step, step}
use types.Kit.{◌$◌, move, use1, split, pick, await}
use denote.RattleType.{RattleType}
use denote.Laws.{Is, shows}
use denote.Steps.{peeks, heard}

module _ {M : Type 1} {𝓤 : Ura M} {𝓛 : Logic 𝓤} {K : Type 0} {Γ : List (Item 𝓤)} where
  -- a call for a lifetime κ gave v, of which its contract says `Says`
  open 𝓛 use {H}

  pub answers : K → {G : Goal 𝓤 H} → Soaks G → (R : RattleType) (κ : Lft) (q : Share) {Ensured : R.Denot → SProp 𝓤}
      (Says : R.Denot → Type 0) → ((r : R.Denot) → ent 𝓤 (Ensured r) (fact 𝓤 (Says r))) → (v : Val)
      → ((r : R.Denot) → Says r → Is R r (v ∷ [])
      → Seq K 𝓛 (‵ (R.own_val r (v ∷ [])) ∷ (‵ (flft κ q) ⊛ ‵ ftrue) ∷ Γ) G)
      → Seq K 𝓛
      (raw (mean 𝓛 (later (some (λ (r : R.Denot). ((‵ (flft κ q) ⊛ ‵ ftrue) ⊛ ‵ (R.own_val r (v ∷ [])))
      ⊛ raw (Ensured r))))) ∷ Γ) G
  answers t z R κ q {Ensured} Says said v k =
      use1 𝓛
      (later (some (λ (r : R.Denot). ((‵ (flft κ q) ⊛ ‵ ftrue) ⊛ ‵ (R.own_val r (v ∷ []))) ⊛ raw (Ensured r))))
      (id⊢ 𝓤 _) $
      await t z $ pick t (λ r. split t $ move t (1 ∷ []) $ use1 𝓛 (raw (fact 𝓤 (Says r))) (said r) $
      heard t (Says r) (λ e. split t $ move t (1 ∷ []) $
      peeks t R (Is R) (shows 𝓛 R) r (v ∷ []) (λ is. k r e is)))

  -- entry n is a local's cell, and entry m of the rest is what frees it
  pub gone : K → (n m : ℕ) {τ : Ty} {b : ℕ} {v : Val} {E : Env 𝓤 H} {g : Goal 𝓤 H}
      → nth 𝓛 n Γ ≡ ‵ (fat full_share τ b zero v) → nth 𝓛 m (del 𝓛 n Γ) ≡ ‵ (fdies τ b)
      → Step K 𝓛 (del 𝓛 m (del 𝓛 n Γ)) (frees E g) Γ (frees ((τ, b) ∷ E) g)
  gone t n m {τ} {b} {v} cell dies =
      let rest = del 𝓛 n Γ in
      let left = del 𝓛 m rest in
      step (λ s. record {
        prf = via 𝓤 (sep 𝓤 (H.at full_share τ b zero v) (⋆ 𝓛 rest))
            (subst (λ (j : Item 𝓤). ent 𝓤 (⋆ 𝓛 Γ) (sep 𝓤 (mean 𝓛 j) (⋆ 𝓛 rest))) cell (pull 𝓛 n Γ))
            (via 𝓤 (sep 𝓤 (H.room τ b zero) (⋆ 𝓛 rest)) (mono_l 𝓤 (⋆ 𝓛 rest) (𝓛.laws.at_room τ b zero v))
            (via 𝓤 (sep 𝓤 (H.room τ b zero) (sep 𝓤 (H.dies τ b) (⋆ 𝓛 left)))
            (mono_r 𝓤 (H.room τ b zero)
            (subst (λ (j : Item 𝓤). ent 𝓤 (⋆ 𝓛 rest) (sep 𝓤 (mean 𝓛 j) (⋆ 𝓛 left))) dies
            (pull 𝓛 m rest)))
            (via 𝓤 (sep 𝓤 (sep 𝓤 (H.room τ b zero) (H.dies τ b)) (⋆ 𝓛 left))
            (assoc' 𝓤 (H.room τ b zero) (H.dies τ b) (⋆ 𝓛 left))
            (mono_r 𝓤 (sep 𝓤 (H.room τ b zero) (H.dies τ b)) s.prf))));
      })
