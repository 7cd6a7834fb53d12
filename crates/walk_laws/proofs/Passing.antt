-- A list of parameters (Parameters) in a function's locals: they are allocated and passed, read as the operands of a
-- call, and freed, as one entry of a walk's context. In order: where the locals lie; the steps of a walk. Assumes
-- nothing.
use Prim.Native.Nat.{ℕ, zero, suc}
use mathlib.Core.Path.{◌≡◌, refl, subst, subst⁻¹}
use mathlib.Core.List.{List, [], ◌∷◌}
use seplogic.Ra.Ura.{Ura}
use base.Fraction.{full_share}
use lib.ListN.{get_or}
use mir.Syntax.{Ty, Step as PStep, place, Opd as Operand, copy, Local, local, value_local}
use base.Logic.{ent, sep, via}
use base.Fml.{Fml, ftrue, fsep, fat, froom, fdies}
use prog.Wp.{Env, Spot, walk}
use types.Logic.{Logic, sem}
use contract.Lifetimes.{Lfts}
use types.Kit.{Item, ‵, mean, ⋆, nth, del, push, pop, pull, unpull, Goal, passes, allocs, frees, Seq, Step}
use types.Kit.{step, ◌$◌, ◌∵◌, !, qed, move, use1, drop, fsplit3, fjoin3, done}
use types.Run.{Walks, Finds, Opds, look, init, forget, stop, load, and_then, no_more, alloc1, pass1, free1}
use denote.Steps.{nothing}
use Rattle.walk_laws.proofs.Data.{Data}
use Rattle.walk_laws.proofs.Parameters.{Values, machine, Known, across}

-- ---- where the locals lie

-- their locals before others, and the environment of these
abbrev pub locals : List Data → List Local → List Local
locals [] ls = ls
locals (p ∷ ps) ls = local p.mir value_local ∷ locals ps ls

abbrev pub Blocks : List Data → Type 0
Blocks [] = Unit {0}
Blocks (p ∷ ps) = ℕ × Blocks ps

abbrev pub env : (ps : List Data) → Blocks ps → List (Ty × ℕ) → List (Ty × ℕ)
env [] bs E = E
env (p ∷ ps) bs E = (p.mir, bs.0) ∷ env ps bs.1 E

-- the place of the local k of those that stand after them
abbrev pub after : List Data → ℕ → ℕ
after [] k = k
after (p ∷ ps) k = suc (after ps k)

pub after_env : (ps : List Data) (bs : Blocks ps) (E : List (Ty × ℕ)) (k : ℕ) (d : Ty × ℕ)
    → get_or (env ps bs E) (after ps k) d ≡ get_or E k d
after_env [] bs E k d = refl
after_env (p ∷ ps) bs E k d = after_env ps bs.1 E k d

-- they as operands, where the local k of them has the place ix k
abbrev pub operands : (ℕ → ℕ) → List Data → List Operand
operands ix [] = []
operands ix (p ∷ ps) = copy (place (ix zero) []) ∷ operands (λ k. ix (suc k)) ps

abbrev pub rooms : (ps : List Data) → Blocks ps → Fml
rooms [] bs = ftrue
rooms (p ∷ ps) bs = fsep (froom p.mir bs.0 zero) (fsep (fdies p.mir bs.0) (rooms ps bs.1))

module _ (n : ℕ) (κs : Lfts n) where
  abbrev pub cells : (ps : List Data) → Blocks ps → Values n κs ps → Fml
  cells [] bs a = ftrue
  cells (p ∷ ps) bs a =
      fsep (fat full_share p.mir bs.0 zero (p.val a.0))
      (fsep (fdies p.mir bs.0) (cells ps bs.1 a.1))

-- ---- the steps

module _ {M : Type 1} {𝓤 : Ura M} {𝓛 : Logic 𝓤} {K : Type 0} where
  -- a local whose place does not compute
  open 𝓛 use {H}

  pub from_at : {Γ : List (Item 𝓤)} {E : Env 𝓤 H} {i : ℕ} {st : List PStep} {e : Ty × ℕ} {sp : Spot 𝓤 H} → K
      → ((d : Ty × ℕ) → get_or E i d ≡ e) → Walks K 𝓛 Γ E (e.0, e.1, zero) st sp → Finds K 𝓛 Γ E (place i st) sp
  from_at {Γ = Γ} {E = E} {st = st} t is w =
      record {
        go = λ Kt h. subst⁻¹ (λ (e : Ty × ℕ). ent 𝓤 (⋆ 𝓛 Γ) (walk 𝓤 H E (e.0, e.1, zero) st Kt)) (is _)
            (w.go Kt h);
      }

  pub alloc_all : K → (ps : List Data) {Γ : List (Item 𝓤)} {ls : List Local} {Kt : Env 𝓤 H → Goal 𝓤 H}
      → ((bs : Blocks ps) → Seq K 𝓛 (‵ (rooms ps bs) ∷ Γ) (allocs ls (λ E. Kt (env ps bs E))))
      → Seq K 𝓛 Γ (allocs (locals ps ls) Kt)
  alloc_all t [] k = nothing t $ k tt
  alloc_all t (p ∷ ps) k = alloc1 t (λ b. alloc_all t ps (λ bs. move t (1 ∷ 2 ∷ 0 ∷ []) $ fjoin3 t $ k (b, bs)))

  module _ (n : ℕ) (κs : Lfts n) where
    pub pass_all : K → (ps : List Data) (bs : Blocks ps) (a : Values n κs ps) → Known n κs ps a
        → {Γ : List (Item 𝓤)} {E : Env 𝓤 H} {g : Goal 𝓤 H}
        → Step K 𝓛 (‵ (cells n κs ps bs a) ∷ Γ) (passes E [] g)
        (‵ (rooms ps bs) ∷ Γ) (passes (env ps bs E) (machine n κs ps a) g)
    pass_all t [] bs a is = step (λ s. s)
    pass_all t (p ∷ ps) bs a is =
        step (λ s. fsplit3 t $ pass1 t (init t 0 refl (p.typed 𝓛 a.0 is.0)) $
        move t (2 ∷ []) $ pass_all t ps bs.1 a.1 is.1 $ move t (1 ∷ 2 ∷ 0 ∷ []) $ fjoin3 t $ s)

module _ {M : Type 1} {𝓤 : Ura M} (𝓛 : Logic 𝓤) where
  -- entry k of a context taken apart into three, and put back
  apart : (k : ℕ) (Γ : List (Item 𝓤)) (P Q R : Fml) → nth 𝓛 k Γ ≡ ‵ (fsep P (fsep Q R))
      → ent 𝓤 (⋆ 𝓛 Γ) (⋆ 𝓛 (‵ P ∷ ‵ Q ∷ ‵ R ∷ del 𝓛 k Γ))
  apart k Γ P Q R e =
      via 𝓤 (sep 𝓤 (sem 𝓛 (fsep P (fsep Q R))) (⋆ 𝓛 (del 𝓛 k Γ)))
      (subst (λ (j : Item 𝓤). ent 𝓤 (⋆ 𝓛 Γ) (sep 𝓤 (mean 𝓛 j) (⋆ 𝓛 (del 𝓛 k Γ)))) e (pull 𝓛 k Γ))
      (via 𝓤 (⋆ 𝓛 (‵ (fsep P (fsep Q R)) ∷ del 𝓛 k Γ))
      (push 𝓛 (‵ (fsep P (fsep Q R))) (del 𝓛 k Γ))
      (qed 𝓛 (‵ (fsep P (fsep Q R)) ∷ del 𝓛 k Γ) ∵ fsplit3 ! $ done !))

  together : (k : ℕ) (Γ : List (Item 𝓤)) (P Q R : Fml) → nth 𝓛 k Γ ≡ ‵ (fsep P (fsep Q R))
      → ent 𝓤 (⋆ 𝓛 (‵ P ∷ ‵ Q ∷ ‵ R ∷ del 𝓛 k Γ)) (⋆ 𝓛 Γ)
  together k Γ P Q R e =
      via 𝓤 (⋆ 𝓛 (‵ (fsep P (fsep Q R)) ∷ del 𝓛 k Γ))
      (qed 𝓛 (‵ P ∷ ‵ Q ∷ ‵ R ∷ del 𝓛 k Γ) ∵ fjoin3 ! $ done !)
      (via 𝓤 (sep 𝓤 (sem 𝓛 (fsep P (fsep Q R))) (⋆ 𝓛 (del 𝓛 k Γ)))
      (pop 𝓛 (‵ (fsep P (fsep Q R))) (del 𝓛 k Γ))
      (subst (λ (j : Item 𝓤). ent 𝓤 (sep 𝓤 (mean 𝓛 j) (⋆ 𝓛 (del 𝓛 k Γ))) (⋆ 𝓛 Γ)) e (unpull 𝓛 k Γ)))

  module _ (n : ℕ) (κs : Lfts n) where
    pub forget_all : (ps : List Data) (bs : Blocks ps) (a : Values n κs ps)
        → ent 𝓤 (sem 𝓛 (cells n κs ps bs a)) (sem 𝓛 (rooms ps bs))
    forget_all [] bs a = qed 𝓛 (‵ ftrue ∷ []) ∵ done !
    forget_all (p ∷ ps) bs a =
        qed 𝓛 (‵ (cells n κs (p ∷ ps) bs a) ∷ []) ∵ fsplit3 ! $ forget ! 0 refl $ move ! (2 ∷ []) $
        use1 𝓛 (‵ (rooms ps bs.1)) (forget_all ps bs.1 a.1) $ move ! (1 ∷ 2 ∷ 0 ∷ []) $ fjoin3 ! $ done !

    -- they are entry k of the context, and are read as the operands of a call of another signature
    pub read_all : {K : Type 0} (m : ℕ) (κs' : Lfts m) (ps : List Data) (bs : Blocks ps) (a : Values n κs ps) (k : ℕ)
        (Γ : List (Item 𝓤)) (E E' : List (Ty × ℕ)) (ix : ℕ → ℕ)
        → ((j : ℕ) (d : Ty × ℕ) → get_or E (ix j) d ≡ get_or (env ps bs E') j d) → nth 𝓛 k Γ ≡ ‵ (cells n κs ps bs a)
        → K → Opds K 𝓛 Γ E (operands ix ps) (machine m κs' ps (across n m κs κs' ps a))
    read_all m κs' [] bs a k Γ E E' ix is e t = no_more t
    read_all m κs' (p ∷ ps) bs a k Γ E E' ix is e t =
        let P : Fml = fat full_share p.mir bs.0 zero (p.val a.0) in
        let Q : Fml = fdies p.mir bs.0 in
        let R : Fml = cells n κs ps bs.1 a.1 in
        let Δ : List (Item 𝓤) = ‵ P ∷ ‵ Q ∷ ‵ R ∷ del 𝓛 k Γ in
        let first : Opds _ 𝓛 Δ E (operands ix (p ∷ ps)) (machine m κs' (p ∷ ps) (across n m κs κs' (p ∷ ps) a)) =
        and_then t (load t (from_at t (is 0) (stop t)) (look t 0 refl))
        (read_all m κs' ps bs.1 a.1 2 Δ E E' (λ j. ix (suc j)) (λ j. is (suc j)) refl t) in
        record {
          go = λ Kt h. via 𝓤 (⋆ 𝓛 Δ) (apart k Γ P Q R e)
              (first.go Kt (via 𝓤 (⋆ 𝓛 Γ) (together k Γ P Q R e) h));
        }

module _ {M : Type 1} {𝓤 : Ura M} {𝓛 : Logic 𝓤} {K : Type 0} where
  open 𝓛 use {H}

  pub free_all : K → (ps : List Data) (bs : Blocks ps) {Γ : List (Item 𝓤)} {E : Env 𝓤 H} {g : Goal 𝓤 H}
      → Step K 𝓛 Γ (frees E g) (‵ (rooms ps bs) ∷ Γ) (frees (env ps bs E) g)
  free_all t [] bs = drop t
  free_all t (p ∷ ps) bs = step (λ s. fsplit3 t $ free1 t $ free_all t ps bs.1 $ s)
