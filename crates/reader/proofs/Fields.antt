-- A reader whose fields are passed on, once for every such function:
--     fn f<'a>(reader: Reader<'a>) -> R { g(reader.log, reader.block, reader.record) }
-- over a core call g. In order: f, a call of f, its exit, the walk, the law `thin`. Assumes nothing.
use mathlib.Core.Path.{◌≡◌, refl}
use Prim.Native.Nat.{ℕ}
use mathlib.Core.List.{List, [], ◌∷◌}
use lib.Dec.{T as Holds}
use seplogic.Ra.Ura.{Ura}
use mir.Syntax.{Callee as Name, Fn, ty_int, ty_ref, named, erased, imm, w8, w64, field, place, copy, rv_opd, seq}
use mir.Syntax.{assign, call, return, local, value_local}
use mir.Val.{Val, WT, has_ty}
use base.Logic.{SProp, ent, snd∗, ex_e}
use base.Fml.{Lft, Share, Fml, ftrue, flft}
use prog.Model.{Model}
use prog.Routine.{Routine, Env}
use prog.Wp.{Calls, Loops, WpFn, Closed}
use types.Logic.{Logic, sem}
use contract.Monad.{fact}
use contract.Running.{Running, tables}
use types.Kit.{‵, raw, ◌⊛◌, ⋆, ◌$◌, ◌∵◌, !, qed, by, move, keep, use2, split, fsplit, fjoin, suffices, frame}
use types.Kit.{done}
use types.Part.{whole, sub, look_in}
use types.Run.{look, init, stop, fld, from, load, of_opd, and_then, no_more, assigns, land, returns, enter, alloc1}
use types.Run.{alloc0, params1, pass1, pass0, free0}
use sound.WpLaws.{FmC}
use denote.RattleType.{owns}
use denote.Signature.{Signature, plain, named_lft}
use denote.Slice.{slice_ty}
use denote.Steps.{nothing}
use denote.Struct.Laws as LL
use denote.Triple.Statement.{Contract, Triple}
use denote.Triple.Call.{calls_at}
use denote.Triple.Clauses.{Clauses, Ended, closing, ensured, lasts}
use denote.Triple.Entry.{on_entry}
use denote.Triple.Spec.{Meets, triple_of}
use denote.Triple.Walked.{says, needs, Stays, stay_none, walk_of, Goes-none, Walks, ends_at, walked}
use denote.Exit.{yes}
use Rattle.walk_laws.proofs.Calling.{by_walk}
use Rattle.walk_laws.proofs.Data.{Data, typed_at}
use Rattle.reader.specs.Reading.{Standing}
use Rattle.reader.specs.declared.Reader.{Reader}
use Rattle.reader.specs.contracts.Reader as T
use Rattle.reader.proofs.Reader.TheLaws as T'
use Rattle.walk_laws.proofs.Steps.{answers, gone}
use Rattle.reader.proofs.Walks as core
use Rattle.reader.proofs.Walks.{B, lasting, Core}

module _ (R : Data) (Said : List ℕ → ℕ → ℕ → R.type.Denot → Type 0) where
  abbrev pub signature : Signature
  signature = lasting (plain (λ κs. B (named_lft 1 0 tt κs)) ∷ []) (λ κs. R.type)

  abbrev pub ended : Ended
  ended = record { signature = signature; kept = (yes, tt) }

  abbrev pub function : Name → Fn
  function g =
      record {
        lifetimes = 1;
        outlives = [];
        ty_params = [];
        givens = 0;
        params = 1;
        locals =
            local R.mir value_local ∷ local (T'.mir (named 0)) value_local
            ∷ local (slice_ty (ty_ref erased imm (ty_int w8))) value_local
            ∷ local (ty_int w64) value_local ∷ local (ty_int w64) value_local ∷ [];
        body =
            seq (assign (place 2 []) (rv_opd (copy (place 1 (field 0 ∷ [])))))
            (seq (assign (place 3 []) (rv_opd (copy (place 1 (field 1 ∷ [])))))
            (seq (assign (place 4 []) (rv_opd (copy (place 1 (field 2 ∷ [])))))
            (seq (call g (copy (place 2 []) ∷ copy (place 3 []) ∷ copy (place 4 []) ∷ []) (place 0 [])) return)));
      }

  abbrev pub clauses : {M : Type 1} (𝓤 : Ura M) → Clauses 𝓤 ended
  clauses 𝓤 κs a =
      record {
        ghost = Unit {0};
        requires = λ _. fact 𝓤 (Standing a.0);
        ensures = λ _ r e. fact 𝓤 (Said a.0.log.now a.0.block a.0.«record» r);
      }

  abbrev pub Of : {M : Type 1} {𝓤 : Ura M} (𝓛 : Logic 𝓤) → Contract 𝓤
  Of {𝓤 = 𝓤} 𝓛 = triple_of 𝓛 signature (closing 𝓛 ended (clauses 𝓤))

  abbrev stayed : Stays ended.signature.params ended.kept
  stayed = (stay_none (λ κs. B (named_lft 1 0 tt κs)) yes, tt)

  module _ {M : Type 1} {𝓤 : Ura M} (𝓛 : Logic 𝓤) where
    open 𝓛 use {H}

    module _ (κ : Lft) (q : Share) (d : Reader) where
      abbrev mach : Val
      mach = T'.lowered d

      abbrev Post : Val → SProp 𝓤
      Post = (walk_of 𝓛 ended stayed (clauses 𝓤)).post (((κ, tt), (q, tt), tt, (d, tt), (mach ∷ [], tt)), tt)

      abbrev Own : Fml
      Own = core.Own R Said 𝓛 κ q d (named 0)

      abbrev Says : R.type.Denot → Type 0
      Says = core.Says R Said 𝓛 κ q d

      -- ---- a call of f

      abbrev pub to : (Of 𝓛).Ghost
      to = (((κ, tt), (q, tt), tt, (d, tt), (mach ∷ [], tt)), tt)

      pub asked : Standing d → ent 𝓤 (⋆ 𝓛 (‵ Own ∷ (‵ (flft κ q) ⊛ ‵ ftrue) ∷ [])) ((Of 𝓛).pre to)
      asked stands =
          qed 𝓛 (‵ Own ∷ (‵ (flft κ q) ⊛ ‵ ftrue) ∷ []) ∵ says ! stands $
          move ! (1 ∷ 0 ∷ []) $ frame ! $ nothing ! $ move ! (1 ∷ 0 ∷ []) $ fjoin ! $ done !

      pub said : (r : R.type.Denot)
          → ent 𝓤 (ensured 𝓛 ended (clauses 𝓤) (κ, tt) (d, tt) tt r) (fact 𝓤 (Says r))
      said r = ex_e 𝓤 _ (λ ws. snd∗ 𝓤 (sem 𝓛 (lasts ended (κ, tt) (d, tt) ws)) (fact 𝓤 (Says r)))

      -- ---- f's exit

      exits : (r : R.type.Denot) (v : Val) → Says r
          → ent 𝓤 (⋆ 𝓛 (‵ (R.type.own_val r (v ∷ [])) ∷ (‵ (flft κ q) ⊛ ‵ ftrue) ∷ ‵ Own ∷ [])) (Post v)
      exits r v e =
          qed 𝓛 (‵ (R.type.own_val r (v ∷ [])) ∷ (‵ (flft κ q) ⊛ ‵ ftrue) ∷ ‵ Own ∷ []) ∵
          suffices ! _ (ends_at 𝓛 ended stayed (clauses 𝓤) to v r (tt, tt) (tt, tt)) $
          says ! e $ move ! (1 ∷ []) $ frame ! $ nothing ! $ move ! (2 ∷ 0 ∷ []) $ fjoin ! $ frame ! $ done !

      -- ---- the walk

      module _ (g : Name) (C : Calls 𝓤 H) (Λ : Loops 𝓤 H) (fm : FmC 𝓤 H 𝓛.laws C)
          (known : Triple 𝓤 (C g) (Core R Said 𝓛)) where
        walk : Standing d → Holds (has_ty (T'.mir (named 0)) mach) × WT mach
            → ent 𝓤 (on_entry 𝓛 signature (κ, tt) (q, tt) (d, tt) (mach ∷ [], tt))
            (WpFn 𝓤 H C Λ (function g) (mach ∷ []) Post)
        walk stands wt =
            qed 𝓛 ((‵ (flft κ q) ⊛ ‵ ftrue) ∷ ‵ (owns (B (named_lft 1 0 tt (κ, tt)) ∷ []) (d, tt)
            (mach ∷ [], tt)) ∷ []) ∵
            move ! (1 ∷ []) $ fsplit ! $ move ! (0 ∷ 2 ∷ []) $
            -- [what the struct owns; the token; true]
            enter ! C Λ (function g) (mach ∷ []) _ $
            alloc1 ! (λ l₀. alloc1 ! (λ l₁. alloc1 ! (λ l₂. alloc1 ! (λ l₃. alloc1 ! (λ l₄. alloc0 ! $
            params1 ! $ pass1 ! (init ! 6 refl wt) $ pass0 ! $
            assigns ! (of_opd ! (load ! (from ! (fld ! refl (stop !))) (look_in ! 6 (sub ! 0 refl (whole !)))))
            (from ! (stop !)) (init ! 4 refl (tt, wt.1.0)) $
            assigns ! (of_opd ! (load ! (from ! (fld ! refl (stop !))) (look_in ! 6 (sub ! 1 refl (whole !)))))
            (from ! (stop !)) (init ! 2 refl (tt, wt.1.1.0)) $
            assigns ! (of_opd ! (load ! (from ! (fld ! refl (stop !))) (look_in ! 6 (sub ! 2 refl (whole !)))))
            (from ! (stop !)) (init ! 0 refl (tt, wt.1.1.1.0)) $
            move ! (10 ∷ 11 ∷ []) $
            use2 𝓛 (raw ((Core R Said 𝓛).pre (core.to R Said 𝓛 κ q d)) ⊛ ‵ Own)
            (core.apart R Said 𝓛 κ q d (named 0) stands wt.1.1.0.fits wt.1.1.1.0.fits) $ split ! $
            calls_at ! fm (Core R Said 𝓛) known (core.to R Said 𝓛 κ q d)
            (and_then ! (load ! (from ! (stop !)) (look ! 6 refl))
            (and_then ! (load ! (from ! (stop !)) (look ! 4 refl))
            (and_then ! (load ! (from ! (stop !)) (look ! 2 refl)) (no_more !)))) (λ v.
            answers ! tt R.type κ q Says (core.said R Said 𝓛 κ q d) v (λ r e is.
            -- [what the result owns; the token; what the struct owns; the locals, the last first]
            land ! (from ! (stop !)) (init ! 11 refl (typed_at R 𝓛 r v is)) $
            returns ! (look ! 11 refl) $ gone ! 11 11 refl refl $ gone ! 9 9 refl refl $ gone ! 7 7 refl refl $
            gone ! 5 5 refl refl $ gone ! 3 3 refl refl $ free0 ! $
            keep ! (0 ∷ 1 ∷ 2 ∷ []) $ by ! (exits r v e))))))))

    -- ---- the law

    walks : (g : Name) (C : Calls 𝓤 H) (Λ : Loops 𝓤 H) → FmC 𝓤 H 𝓛.laws C → Triple 𝓤 (C g) (Core R Said 𝓛)
        → Walks 𝓛 ended stayed (WpFn 𝓤 H C Λ (function g)) (clauses 𝓤)
    walks g C Λ fm known =
        walked 𝓛 ended stayed (clauses 𝓤) (WpFn 𝓤 H C Λ (function g))
        (λ κs. (LL.vals (T.the_type (named_lft 1 0 tt κs)) (T'.the_laws (named_lft 1 0 tt κs)), tt))
        (λ κs. (LL.tells (T.the_type (named_lft 1 0 tt κs)) (T'.the_laws (named_lft 1 0 tt κs)), tt))
        (λ κs qs bounds a _ are. needs 𝓤 _ _ (λ stands. walk κs.0 qs.0 a.0 g C Λ fm known stands
        ((LL.lawful (T.the_type (named_lft 1 0 tt κs)) (T'.the_laws (named_lft 1 0 tt κs)) 𝓛).typed a.0 _
        are.0).0))

  module _ {M : Type 1} {𝓤 : Ura M} (𝓛 : Logic 𝓤) (𝓜 : Model 𝓤 𝓛.H) (𝓡 : Running 𝓤 𝓛.H 𝓜)
      (γ : Env) where
    open 𝓛 use {H}

    pub thin : (name g : Name) → Closed 𝓤 H (tables 𝓤 H 𝓜 𝓡 γ).C (tables 𝓤 H 𝓜 𝓡 γ).Λ name (function g)
        → (r : Routine) → γ g ≡ r → Triple 𝓤 (𝓡.run r) (Core R Said 𝓛)
        → Meets 𝓛 signature (𝓡.run (γ name)) (closing 𝓛 ended (clauses 𝓤))
    thin name g =
        by_walk 𝓛 𝓜 𝓡 γ ended stayed (clauses 𝓤) (Core R Said 𝓛)
        (Goes-none 𝓛 1 (λ κs. B (named_lft 1 0 tt κs)) yes (λ κs x f. refl), tt) name g (function g)
        (walks 𝓛 g)
