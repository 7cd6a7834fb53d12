-- Functions of a log alone, without a requirement: `fn g(log: &[u8]) -> R`. In order: the contract; a call of such a
-- function by another, which keeps the log; such a function's exit; its theorem from a walk of its MIR; what
-- `open_log` is as such a function. Assumes nothing.
use Prim.Native.Nat.{ℕ}
use mathlib.Core.Path.{refl}
use mathlib.Core.List.{List, [], ◌∷◌}
use seplogic.Ra.Ura.{Ura}
use mir.Syntax.{Fn, named, w8}
use mir.Val.{Val}
use base.Logic.{SProp, ent, sep, emp, via, fst∗, snd∗, ex_e}
use base.Fml.{Lft, Share, ftrue, flft}
use prog.Wp.{WpFn, Tables}
use types.Logic.{Logic, sem}
use contract.Lifetimes.{Lfts}
use contract.Monad.{fact}
use types.Kit.{‵, raw, ◌⊛◌, ⋆, ◌$◌, ◌∵◌, !, qed, move, use1, use2, split, join, fsplit, fjoin, suffices, frame}
use types.Kit.{done}
use sound.WpLaws.{WpFn-mono}
use denote.Plain.{uint_row_laws}
use denote.RattleType.{RattleType, owns}
use denote.Laws.{Is}
use denote.Builtin.{u8, SliceRefOf}
use denote.Ref.{Bor}
use denote.Signature.{Signature, plain, named_lft}
use denote.Slice.{ShrSlice, shr_slice_vals, shr_slice_Tells, shr_slice_copy}
use denote.Steps.{nothing}
use denote.Triple.Statement.{Contract}
use denote.Triple.Clauses.{Clauses, Ended, closing, ensured, lasts}
use denote.Triple.Entry.{on_entry}
use denote.Triple.Spec.{Meets, triple_of}
use denote.Triple.Walked.{says, Stays, stay_none_slice, walk_of, Goes-none_slice, ends_at, walked, walk_Meets}
use denote.Exit.{yes}
use Rattle.reader.specs.Reading.{OpenedOn}
use Rattle.reader.specs.declared.Opened.{Opened}
use Rattle.reader.specs.contracts.Opened as O
use Rattle.walk_laws.proofs.Data.{Data}
use Rattle.reader.proofs.Walks.{slice_of, SliceOwn, lasting}

module _ (R : Lfts 1 → RattleType) (Said : (κs : Lfts 1) → Bor (List ℕ) → (R κs).Denot → Type 0) where
  abbrev pub signature : Signature
  signature = lasting (SliceRefOf (0 ∷ []) tt (plain (λ κs. u8)) (λ κs. tt) ∷ []) R

  abbrev pub ended : Ended
  ended = record { signature = signature; kept = (yes, tt) }

  abbrev stayed : Stays ended.signature.params ended.kept
  stayed = (stay_none_slice (0 ∷ []) tt (plain (λ _. u8)) yes, tt)

  abbrev pub clauses : {M : Type 1} (𝓤 : Ura M) → Clauses 𝓤 ended
  clauses 𝓤 κs a =
      record { ghost = Unit {0}; requires = λ _. emp 𝓤; ensures = λ _ r e. fact 𝓤 (Said κs a.0 r) }

  abbrev pub On : {M : Type 1} {𝓤 : Ura M} (𝓛 : Logic 𝓤) → Contract 𝓤
  On {𝓤 = 𝓤} 𝓛 = triple_of 𝓛 signature (closing 𝓛 ended (clauses 𝓤))

  module _ {M : Type 1} {𝓤 : Ura M} (𝓛 : Logic 𝓤) where
    open 𝓛 use {H}

    module _ (κ : Lft) (q : Share) (s : Bor (List ℕ)) where
      abbrev pub Enters : SProp 𝓤
      Enters = on_entry 𝓛 signature (κ, tt) (q, tt) (s, tt) (slice_of s ∷ [], tt)

      abbrev pub Post : Val → SProp 𝓤
      Post = (walk_of 𝓛 ended stayed (clauses 𝓤)).post (((κ, tt), (q, tt), tt, (s, tt), (slice_of s ∷ [], tt)), tt)

      -- ---- a call

      abbrev pub to : (On 𝓛).Ghost
      to = (((κ, tt), (q, tt), tt, (s, tt), (slice_of s ∷ [], tt)), tt)

      pub goes : ent 𝓤 Enters (sep 𝓤 ((On 𝓛).pre to) (sem 𝓛 (SliceOwn κ s)))
      goes =
          qed 𝓛 ((‵ (flft κ q) ⊛ ‵ ftrue) ∷ ‵ (owns (ShrSlice (named 0) κ u8 ∷ []) (s, tt)
          (slice_of s ∷ [], tt)) ∷ []) ∵
          move ! (1 ∷ []) $ fsplit ! $
          use1 𝓛 (‵ (SliceOwn κ s) ⊛ ‵ (SliceOwn κ s))
          ((shr_slice_copy 𝓛 (named 0) κ u8 (uint_row_laws w8)).twice s (slice_of s ∷ [])) $ split ! $
          move ! (0 ∷ 2 ∷ []) $ fjoin ! $ move ! (2 ∷ 0 ∷ []) $
          use2 𝓛 (raw ((On 𝓛).pre to))
          (qed 𝓛 ((‵ (flft κ q) ⊛ ‵ ftrue)
          ∷ ‵ (owns (ShrSlice (named 0) κ u8 ∷ []) (s, tt) (slice_of s ∷ [], tt)) ∷ []) ∵
          join ! $ frame ! $ done !) $ frame ! $ done !

      pub said : (r : (R (κ, tt)).Denot)
          → ent 𝓤 (ensured 𝓛 ended (clauses 𝓤) (κ, tt) (s, tt) tt r) (fact 𝓤 (Said (κ, tt) s r))
      said r = ex_e 𝓤 _ (λ ws. snd∗ 𝓤 (sem 𝓛 (lasts ended (κ, tt) (s, tt) ws)) (fact 𝓤 (Said (κ, tt) s r)))

      -- ---- exit

      pub exits : (r : (R (κ, tt)).Denot) (v : Val) → Said (κ, tt) s r
          → ent 𝓤 (⋆ 𝓛 (‵ ((R (κ, tt)).own_val r (v ∷ [])) ∷ (‵ (flft κ q) ⊛ ‵ ftrue) ∷ ‵ (SliceOwn κ s) ∷ [])) (Post v)
      exits r v e =
          qed 𝓛 (‵ ((R (κ, tt)).own_val r (v ∷ [])) ∷ (‵ (flft κ q) ⊛ ‵ ftrue) ∷ ‵ (SliceOwn κ s) ∷ []) ∵
          suffices ! _ (ends_at 𝓛 ended stayed (clauses 𝓤) to v r (tt, tt) (tt, tt)) $
          says ! e $ move ! (1 ∷ []) $ frame ! $ nothing ! $ move ! (2 ∷ 0 ∷ []) $ fjoin ! $ frame ! $ done !

    -- ---- the theorem

    pub by_walk : (𝓣 : Tables 𝓤 H) (f : Fn)
        → ((κ : Lft) (q : Share) (s : Bor (List ℕ)) → Is (ShrSlice (named 0) κ u8) s (slice_of s ∷ [])
        → ent 𝓤 (Enters κ q s) (WpFn 𝓤 H 𝓣.C 𝓣.Λ f (slice_of s ∷ []) (Post κ q s)))
        → Meets 𝓛 signature (WpFn 𝓤 H 𝓣.C 𝓣.Λ f) (closing 𝓛 ended (clauses 𝓤))
    by_walk 𝓣 f walk =
        walk_Meets 𝓛 ended stayed (Goes-none_slice 𝓛 1 (0 ∷ []) tt (plain (λ _. u8)) yes, tt) (clauses 𝓤)
        (WpFn 𝓤 H 𝓣.C 𝓣.Λ f) (WpFn-mono 𝓤 H 𝓛.laws 𝓣 f)
        (walked 𝓛 ended stayed (clauses 𝓤) (WpFn 𝓤 H 𝓣.C 𝓣.Λ f)
        (λ κs. (shr_slice_vals, tt)) (λ κs. (shr_slice_Tells (named 0) κs.0 u8, tt))
        (λ κs qs bounds a g are. via 𝓤 _ (fst∗ 𝓤 _ (emp 𝓤)) (walk κs.0 qs.0 a.0 are.0)))

-- ---- `open_log`

abbrev pub opened_row : Lfts 1 → RattleType
opened_row κs = O.the_row (named_lft 1 0 tt κs)

abbrev pub Opens : Lfts 1 → Bor (List ℕ) → Opened → Type 0
Opens κs s o = OpenedOn s o

-- a verdict
