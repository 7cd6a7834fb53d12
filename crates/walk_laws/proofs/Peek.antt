-- A state that is lent and read, once for every such function and any further parameters ps:
--     fn f(s: &R, ps) -> S { g(*s, ps) }
-- over g by value. All types are plain data.
--     need h a         what both require of the state h and the parameters' values a
--     Said h a r       what g ensures of its result r, and f of the same
--     ended, clauses, function                 f's, to which what `rattle check` makes of f computes
--     thin             f meets its contract, from that g does
-- In order: the two functions, f's exit, the walk, the law. InPlace names the same places of its walk (a', x, Post,
-- to): from another file each would take all that is bound before it, and be as long. Assumes nothing.
use Prim.Native.Nat.{ℕ, suc}
use mathlib.Core.Path.{◌≡◌, refl}
use mathlib.Core.List.{[], ◌∷◌, List}
use seplogic.Ra.Ura.{Ura}
use mir.Syntax.{Callee as Name, Ty, ty_ref, named, imm, deref, place, copy, rv_opd, seq, assign, call, return}
use mir.Syntax.{local, value_local, Fn}
use mir.Val.{Val, vptr}
use base.Logic.{SProp, ent, sep}
use base.Fml.{Lft, Share, ftrue, flft}
use prog.Wp.{Calls, Loops, WpFn, Closed}
use types.Logic.{Logic}
use contract.Running.{Running, tables}
use prog.Model.{Model}
use prog.Routine.{Routine, Env}
use types.Kit.{‵, raw, ◌⊛◌, ⋆, ◌$◌, ◌∵◌, !, qed, by, move, keep, drop, use0, use1, split, join, fsplit}
use types.Kit.{fjoin, feq_i, suffices, frame, done}
use types.Run.{look, look_raw, init, forget, stop, hop, from, load, of_opd, and_then, assigns, land, returns, enter}
use types.Run.{alloc1, alloc0, params1, pass1, pass0, free1, free0}
use sound.WpLaws.{FmC}
use denote.RattleType.{RattleType, owns}
use denote.Laws.{Is, shows}
use denote.Memory.{hidden_shr, pointee}
use denote.Ref.{Bor, ShrRef, shr_vals, shr_Tells}
use denote.Signature.{plain}
use denote.Steps.{looks, shuts, peeks, nothing}
use denote.Struct.Declared.{Declared, fields, shape, row}
use denote.Struct.Struct.{Plains, layout}
use denote.Struct.Steps.{spelt}
use denote.Struct.Laws as LL
use denote.Triple.Statement.{Contract, Triple}
use denote.Triple.Call.{calls_at}
use denote.Triple.Clauses.{Clauses, Ended, closing}
use denote.Triple.Entry.{on_entry}
use denote.Triple.Spec.{Meets}
use denote.Triple.Walked.{says, Stays, stay_none_ref, has_of, walk_of, Goes-none_ref, ends_at, walked}
use denote.Exit.{yes}
use Rattle.walk_laws.proofs.Calling.{by_walk}
use Rattle.walk_laws.proofs.Contracts as con
use Rattle.walk_laws.proofs.Data.{Data, typed_at}
use Rattle.walk_laws.proofs.Parameters.{slots, kept, stay, rows, Values, spells, tell, lists, machine, Known}
use Rattle.walk_laws.proofs.Parameters.{finals, fits, had, goes, across, known_across}
use Rattle.walk_laws.proofs.Passing.{locals, after, after_env, operands, rooms, from_at, alloc_all, pass_all}
use Rattle.walk_laws.proofs.Passing.{forget_all, read_all, free_all}

module _ (T : Declared) (L : LL.Laws T) (ps : List Data) (S : Data)
    (Said : T.D → Values 0 tt ps → S.type.Denot → Type 0) where
  abbrev R : RattleType
  R = row T

  abbrev τR : Ty
  τR = layout (shape T)

  -- ---- the two functions

  abbrev pub ended : Ended
  ended = con.shared R ps S.type

  abbrev stayed : Stays ended.signature.params ended.kept
  stayed = (stay_none_ref (0 ∷ []) tt (plain (λ _. R)) yes, stay 1 ps)

  -- the place of the state among f's locals: the answer, the reference, the parameters, the state
  abbrev at_r : ℕ
  at_r = suc (suc (after ps 0))

  abbrev pub function : Name → Fn
  function g =
      record {
        lifetimes = 1;
        outlives = [];
        ty_params = [];
        givens = 0;
        params = suc (after ps 0);
        locals =
            local S.mir value_local
            ∷ local (ty_ref (named 0) imm (pointee R.written)) value_local
            ∷ locals ps (local τR value_local ∷ []);
        body =
            seq (assign (place at_r []) (rv_opd (copy (place 1 (deref τR ∷ [])))))
            (seq (call g (copy (place at_r []) ∷ operands (λ k. suc (suc k)) ps) (place 0 [])) return);
      }

  module _ {M : Type 1} (𝓤 : Ura M) (need : T.D → Values 0 tt ps → SProp 𝓤) where
    abbrev pub clauses : Clauses 𝓤 ended
    clauses = con.shared_clauses R ps S.type 𝓤 need Said

    abbrev pub Callee : (𝓛 : Logic 𝓤) → Contract 𝓤
    Callee = con.ByValue R ps S.type 𝓤 need Said

  module _ (plainR : Plains (fields T)) (copyR : LL.Copyables T.parts) where
    abbrev vals : T.D → List Val
    vals = LL.vals T L

    module _ {M : Type 1} {𝓤 : Ura M} (𝓛 : Logic 𝓤) (𝓜 : Model 𝓤 𝓛.H) (𝓡 : Running 𝓤 𝓛.H 𝓜)
        (need : T.D → Values 0 tt ps → SProp 𝓤) (γ : Env) (name g : Name) where
      open 𝓛 use {H}

      module _ (κ : Lft) (q : Share) (b o : ℕ) (h : T.D) (a : Values 1 (κ, tt) ps)
          (is : Known 1 (κ, tt) ps a) where
        -- the parameters as g has them
        abbrev a' : Values 0 tt ps
        a' = across 1 0 (κ, tt) tt ps a

        abbrev x : Bor T.D × Values 1 (κ, tt) ps
        x = (record { ref_ptr = (b, o); now = h }, a)

        abbrev Post : Val → SProp 𝓤
        Post =
            (walk_of 𝓛 ended stayed (clauses 𝓤 need)
            ).post (((κ, tt), (q, tt), tt, x, (vptr b o ∷ [], lists 1 (κ, tt) ps a)), tt)

        abbrev to : (Callee 𝓤 need 𝓛).Ghost
        to = con.to T L ps S.type 𝓛 need Said h a'

        -- ---- f's exit

        exits : (d : S.type.Denot) (v : Val) → Said h a' d
            → ent 𝓤
            (⋆ 𝓛 (‵ (S.type.own_val d (v ∷ [])) ∷ ‵ (flft κ q) ∷ ‵ (hidden_shr R κ h b o) ∷ []))
            (Post v)
        exits d v e =
            qed 𝓛 (‵ (S.type.own_val d (v ∷ [])) ∷ ‵ (flft κ q) ∷ ‵ (hidden_shr R κ h b o) ∷ []) ∵
            suffices ! _
            (ends_at 𝓛 ended stayed (clauses 𝓤 need)
            (((κ, tt), (q, tt), tt, x, (vptr b o ∷ [], lists 1 (κ, tt) ps a)), tt)
            v d (tt, finals 1 (κ, tt) ps a) (tt, fits 1 (κ, tt) ps a)) $
            says ! e $ nothing ! $ move ! (2 ∷ 0 ∷ []) $ join ! $ frame ! $ move ! (1 ∷ []) $
            feq_i ! (List Val) (vptr b o ∷ []) (vptr b o ∷ []) refl $ fjoin ! $
            use0 𝓛 (‵ (has_of (κ, tt) (slots 1 ps) (kept 1 ps) (stay 1 ps) a (finals 1 (κ, tt) ps a)
            (lists 1 (κ, tt) ps a)))
            (had 1 (κ, tt) 𝓛 ps a is) $ move ! (1 ∷ 0 ∷ []) $ fjoin ! $ frame ! $ done !

        -- ---- the walk

        module _ (C : Calls 𝓤 H) (Λ : Loops 𝓤 H) (fm : FmC 𝓤 H 𝓛.laws C)
            (known : Triple 𝓤 (C g) (Callee 𝓤 need 𝓛)) where
          walk : ent 𝓤
              (sep 𝓤 (on_entry 𝓛 ended.signature (κ, tt) (q, tt) x (vptr b o ∷ [], lists 1 (κ, tt) ps a))
              (need h a'))
              (WpFn 𝓤 H C Λ (function g) (vptr b o ∷ machine 1 (κ, tt) ps a) Post)
          walk =
              qed 𝓛
              (((‵ (flft κ q) ⊛ ‵ ftrue)
              ⊛ ‵ (owns (ShrRef (named 0) κ R ∷ rows 1 (κ, tt) ps) x (vptr b o ∷ [], lists 1 (κ, tt) ps a)))
              ∷ raw (need h a') ∷ []) ∵
              split ! $ split ! $ move ! (2 ∷ []) $ fsplit ! $ fsplit ! $ drop ! $ move ! (0 ∷ 2 ∷ 4 ∷ []) $
              -- [the borrow; the token; need; …]
              enter ! C Λ (function g) (vptr b o ∷ machine 1 (κ, tt) ps a) _ $
              alloc1 ! (λ l₀. alloc1 ! (λ l₁. alloc_all ! ps (λ bs. alloc1 ! (λ l₂. alloc0 ! $
              params1 ! $ pass1 ! (init ! 3 refl (tt, tt)) $ move ! (2 ∷ []) $ pass_all 1 (κ, tt) ! ps bs a is $
              pass0 ! $
              move ! (7 ∷ 8 ∷ []) $
              looks ! tt R (LL.copied T copyR 𝓛).opens h b o (λ q' vs.
              spelt ! R (Is R) (shows 𝓛 R) vals (LL.tells T L) q' h vs b o $
              move ! (1 ∷ []) $ peeks ! R (Is R) (shows 𝓛 R) h (vals h) (λ was. move ! (1 ∷ 0 ∷ []) $
              -- [the cell; what h owns; the open borrow; the borrow; ps; state; …; reference; …; room for the
              -- answer; …; need; …]
              assigns ! (of_opd ! (load ! (from ! (hop ! (look ! 7 refl) (stop !))) (look_raw ! 0 refl)))
              (from_at ! (after_env ps bs ((τR, l₂) ∷ []) 0) (stop !))
              (init ! 5 refl ((LL.lawful T L 𝓛).typed h _ was).0) $
              shuts ! tt R q' h (vals h) b o $
              move ! (9 ∷ []) $ use1 𝓛 (raw ((Callee 𝓤 need 𝓛).pre to))
              (con.asked T L ps S.type 𝓛 need Said h a' plainR was (known_across 1 0 (κ, tt) tt ps a is)) $
              -- [what g asks; the token; the borrow; ps; state; …; reference; …; room for the answer; …]
              calls_at ! fm (Callee 𝓤 need 𝓛) known to
              (and_then ! (load ! (from_at ! (after_env ps bs ((τR, l₂) ∷ []) 0) (stop !)) (look ! 4 refl))
              (read_all 𝓛 1 (κ, tt) 0 tt ps bs a 3 _ _ ((τR, l₂) ∷ []) (λ k. suc (suc k)) (λ j d. refl) refl !))
              (λ v. con.gave T L ps S.type 𝓛 need Said h a' ! tt v (λ d e isV.
              land ! (from ! (stop !)) (init ! 8 refl (typed_at S 𝓛 d v isV)) $
              returns ! (look ! 8 refl) $ forget ! 4 refl $ forget ! 6 refl $ forget ! 8 refl $
              move ! (3 ∷ []) $ use1 𝓛 (‵ (rooms ps bs)) (forget_all 𝓛 1 (κ, tt) ps bs a) $
              move ! (8 ∷ 9 ∷ []) $ free1 ! $ move ! (6 ∷ 7 ∷ []) $ free1 ! $ free_all ! ps bs $
              move ! (3 ∷ 4 ∷ []) $ free1 ! $ free0 ! $
              keep ! (0 ∷ 1 ∷ 2 ∷ []) $ by ! (exits d v e)))))))))

      -- ---- the law

      pub thin : Closed 𝓤 H (tables 𝓤 H 𝓜 𝓡 γ).C (tables 𝓤 H 𝓜 𝓡 γ).Λ name (function g)
          → (r : Routine) → γ g ≡ r → Triple 𝓤 (𝓡.run r) (Callee 𝓤 need 𝓛)
          → Meets 𝓛 ended.signature (𝓡.run (γ name)) (closing 𝓛 ended (clauses 𝓤 need))
      thin =
          by_walk 𝓛 𝓜 𝓡 γ ended stayed (clauses 𝓤 need) (Callee 𝓤 need 𝓛)
          (Goes-none_ref 𝓛 1 (0 ∷ []) tt (plain (λ _. R)) yes, goes 1 𝓛 ps) name g (function g)
          (λ C Λ fm known. walked 𝓛 ended stayed (clauses 𝓤 need) (WpFn 𝓤 H C Λ (function g))
          (λ κs. (shr_vals, spells 1 κs ps)) (λ κs. (shr_Tells (named 0) κs.0 R, tell 1 κs ps))
          (λ κs qs bounds a _ are. walk κs.0 qs.0 a.0.ref_ptr.0 a.0.ref_ptr.1
          a.0.now a.1 are.1 C Λ fm known))
