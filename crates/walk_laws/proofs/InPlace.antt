-- A state that is moved forward in place, once for every such function and any further parameters ps:
--     fn f(s: &mut R, ps) -> S { let m = g(*s, ps); *s = m.next; m.answer }
-- over g by value. All types are plain data, and g's result D is a struct of two fields: the answer, the next state.
--     need h a         what both require of the state h and the parameters' values a
--     Said h a d       what g ensures of its result d;  Claim h a s h': what f ensures of its answer s and the state
--                      h' at exit
--     ended, clauses, function                 f's, to which what `rattle check` makes of f computes
--     thin             f meets its contract, from that g does, and that Said gives Claim
-- In order: the two functions, f's exit, the walk, the law. Peek names the same places of its walk (a', x, Post, to):
-- from another file each would take all that is bound before it, and be as long. Assumes nothing.
use Prim.Native.Nat.{ℕ, suc}
use mathlib.Core.Path.{◌≡◌, refl, ap, subst⁻¹}
use mathlib.Core.List.{[], ◌∷◌, List}
use seplogic.Ra.Ura.{Ura}
use base.Fraction.{full_share}
use lib.Dec.{T as Holds}
use mir.Syntax.{Callee as Name, Ty, ty_ref, named, mut, deref, field, place, copy, rv_opd, seq, assign, call, return}
use mir.Syntax.{local, value_local, Fn}
use mir.Val.{Val, WT, has_ty, vptr}
use base.Logic.{SProp, ent, sep}
use base.Fml.{GName, Lft, Share, ftrue, flft, fobs, fbor, fat}
use prog.Wp.{Calls, Loops, WpFn, Closed}
use types.Logic.{Logic}
use contract.Running.{Running, tables}
use prog.Model.{Model}
use prog.Routine.{Routine, Env}
use types.Kit.{‵, raw, ◌⊛◌, ⋆, ◌$◌, ◌∵◌, !, qed, by, move, keep, drop, use0, use1, split, join, rewrite}
use types.Kit.{fsplit, fsplit3, fjoin, fjoin3, feq_i, suffices, frame, done}
use types.Run.{look, look_raw, init, store_raw, forget, stop, hop, fld, from, load, of_opd, and_then, assigns, land}
use types.Run.{returns, enter, alloc1, alloc0, params1, pass1, pass0, free1, free0}
use types.Part.{whole, sub, look_in}
use types.SemTy.{Body}
use sound.WpLaws.{FmC}
use denote.RattleType.{RattleType, owns}
use denote.Laws.{Is, shows}
use denote.Memory.{mem, pointee}
use denote.Ref.{MutBor, MutRef, mut_vals, mut_Tells}
use denote.Signature.{plain}
use denote.Steps.{only, opens, closes, owned, peeks, nothing}
use denote.Struct.Declared.{Declared, fields, shape, row}
use denote.Struct.Struct.{Plains, layout}
use denote.Struct.Steps.{spelt}
use denote.Struct.Laws as LL
use denote.Triple.Statement.{Contract, Triple}
use denote.Triple.Call.{calls_at}
use denote.Triple.Clauses.{Clauses, Ended, closing}
use denote.Triple.Entry.{on_entry}
use denote.Triple.Spec.{Meets}
use denote.Triple.Walked.{says, Stays, stay_ref, has_of, walk_of, Goes-ref, ends_at, walked}
use Rattle.walk_laws.proofs.Answered.{Answered, both, both_types}
use Rattle.walk_laws.proofs.Calling.{by_walk}
use Rattle.walk_laws.proofs.Contracts as con
use Rattle.walk_laws.proofs.Data.{Data}
use Rattle.walk_laws.proofs.Parameters.{slots, kept, stay, rows, Values, spells, tell, lists, machine, Known}
use Rattle.walk_laws.proofs.Parameters.{finals, fits, had, goes, across, known_across}
use Rattle.walk_laws.proofs.Passing.{locals, after, after_env, operands, rooms, from_at, alloc_all, pass_all}
use Rattle.walk_laws.proofs.Passing.{forget_all, read_all, free_all}

module _ (T : Declared) (L : LL.Laws T) (ps : List Data) (P : Answered T L)
    (Said : T.D → Values 0 tt ps → P.D.Denot → Type 0)
    (Claim : T.D → Values 0 tt ps → P.S.type.Denot → T.D → Type 0) where
  abbrev S : Data
  S = P.S

  abbrev D : RattleType
  D = P.D

  abbrev R : RattleType
  R = row T

  abbrev τR : Ty
  τR = layout (shape T)

  abbrev τD : Ty
  τD = both_types T P.ν S

  -- ---- the two functions

  abbrev pub ended : Ended
  ended = con.lent R ps S.type

  abbrev stayed : Stays ended.signature.params ended.kept
  stayed = (stay_ref (0 ∷ []) tt (plain (λ _. R)), stay 1 ps)

  -- the places of f's locals: the answer, the reference, the parameters, g's result, the state, the next
  -- state
  abbrev at_d : ℕ
  at_d = suc (suc (after ps 0))

  abbrev at_r : ℕ
  at_r = suc (suc (after ps 1))

  abbrev at_n : ℕ
  at_n = suc (suc (after ps 2))

  abbrev rest : ℕ → ℕ → ℕ → List (Ty × ℕ)
  rest l₂ l₃ l₄ = (τD, l₂) ∷ (τR, l₃) ∷ (τR, l₄) ∷ []

  abbrev pub function : Name → Fn
  function g =
      record {
        lifetimes = 1;
        outlives = [];
        ty_params = [];
        givens = 0;
        params = suc (after ps 0);
        locals =
            local S.mir value_local
            ∷ local (ty_ref (named 0) mut (pointee R.written)) value_local
            ∷ locals ps (local τD value_local ∷ local τR value_local ∷ local τR value_local ∷ []);
        body =
            seq (assign (place at_r []) (rv_opd (copy (place 1 (deref τR ∷ [])))))
            (seq (call g (copy (place at_r []) ∷ operands (λ k. suc (suc k)) ps) (place at_d []))
            (seq (assign (place at_n []) (rv_opd (copy (place at_d (field 1 ∷ [])))))
            (seq (assign (place 1 (deref τR ∷ [])) (rv_opd (copy (place at_n []))))
            (seq (assign (place 0 []) (rv_opd (copy (place at_d (field 0 ∷ []))))) return))));
      }

  module _ {M : Type 1} (𝓤 : Ura M) (need : T.D → Values 0 tt ps → SProp 𝓤) where
    abbrev pub clauses : Clauses 𝓤 ended
    clauses = con.lent_clauses R ps S.type 𝓤 need Claim

    abbrev pub Callee : (𝓛 : Logic 𝓤) → Contract 𝓤
    Callee = con.ByValue R ps D 𝓤 need Said

  module _ (plainR : Plains (fields T)) where
    abbrev vals : T.D → List Val
    vals = LL.vals T L

    -- what g returns, as a machine value
    abbrev val_d : D.Denot → Val
    val_d d = both T L S (P.answer d) (P.next d)

    module _ {M : Type 1} {𝓤 : Ura M} (𝓛 : Logic 𝓤) (𝓜 : Model 𝓤 𝓛.H) (𝓡 : Running 𝓤 𝓛.H 𝓜)
        (need : T.D → Values 0 tt ps → SProp 𝓤)
        (claims : (h : T.D) (a : Values 0 tt ps) (d : D.Denot) → Said h a d → Claim h a (P.answer d) (P.next d))
        (γ : Env) (name g : Name) where
      open 𝓛 use {H}

      module _ (κ : Lft) (q : Share) (b o : ℕ) (δ : GName) (h : T.D) (a : Values 1 (κ, tt) ps)
          (is : Known 1 (κ, tt) ps a) where
        -- the parameters as g has them
        abbrev a' : Values 0 tt ps
        a' = across 1 0 (κ, tt) tt ps a

        abbrev x : MutBor T.D × Values 1 (κ, tt) ps
        x = (record { ref_ptr = (b, o); ghost_name = δ; now = h }, a)

        abbrev Post : Val → SProp 𝓤
        Post =
            (walk_of 𝓛 ended stayed (clauses 𝓤 need)
            ).post (((κ, tt), (q, tt), tt, x, (vptr b o ∷ [], lists 1 (κ, tt) ps a)), tt)

        abbrev to : (Callee 𝓤 need 𝓛).Ghost
        to = con.to T L ps D 𝓛 need Said h a'

        -- ---- f's exit

        exits : (d : D.Denot) → Said h a' d → Is D d (val_d d ∷ [])
            → ent 𝓤
            (⋆ 𝓛 (‵ (fobs δ (R.coded.code (P.next d))) ∷ ‵ (fbor κ (Body (mem R) b o δ)) ∷ ‵ (flft κ q) ∷ []))
            (Post (S.val (P.answer d)))
        exits d e isD =
            qed 𝓛 (‵ (fobs δ (R.coded.code (P.next d))) ∷ ‵ (fbor κ (Body (mem R) b o δ)) ∷ ‵ (flft κ q) ∷ []) ∵
            suffices ! _
            (ends_at 𝓛 ended stayed (clauses 𝓤 need)
            (((κ, tt), (q, tt), tt, x, (vptr b o ∷ [], lists 1 (κ, tt) ps a)), tt)
            _ (P.answer d) (P.next d, finals 1 (κ, tt) ps a) (tt, fits 1 (κ, tt) ps a)) $
            says ! (claims h a' d e) $ nothing ! $ move ! (3 ∷ 0 ∷ []) $ join ! $
            frame ! $ feq_i ! (List Val) (vptr b o ∷ []) (vptr b o ∷ []) refl $ fjoin3 ! $
            use0 𝓛 (‵ (has_of (κ, tt) (slots 1 ps) (kept 1 ps) (stay 1 ps) a (finals 1 (κ, tt) ps a)
            (lists 1 (κ, tt) ps a)))
            (had 1 (κ, tt) 𝓛 ps a is) $ move ! (1 ∷ 0 ∷ []) $ fjoin ! $
            owned ! S.type (Is S.type) (S.makes 𝓛) (P.answer d) _ (P.answer_is d isD) $
            move ! (1 ∷ 0 ∷ []) $ done !

        -- ---- the walk

        module _ (C : Calls 𝓤 H) (Λ : Loops 𝓤 H) (fm : FmC 𝓤 H 𝓛.laws C)
            (known : Triple 𝓤 (C g) (Callee 𝓤 need 𝓛)) where
          walk : ent 𝓤
              (sep 𝓤 (on_entry 𝓛 ended.signature (κ, tt) (q, tt) x (vptr b o ∷ [], lists 1 (κ, tt) ps a))
              (need h a'))
              (WpFn 𝓤 H C Λ (function g) (vptr b o ∷ machine 1 (κ, tt) ps a) Post)
          walk =
              qed 𝓛
              (((‵ (flft κ q) ⊛ ‵ ftrue)
              ⊛ ‵ (owns (MutRef (named 0) κ R ∷ rows 1 (κ, tt) ps) x (vptr b o ∷ [], lists 1 (κ, tt) ps a)))
              ∷ raw (need h a') ∷ []) ∵
              split ! $ split ! $ move ! (2 ∷ []) $ fsplit ! $ fsplit3 ! $ drop ! $ move ! (0 ∷ 1 ∷ 3 ∷ 5 ∷ []) $
              -- [obs; the borrow; the token; need; …]
              enter ! C Λ (function g) (vptr b o ∷ machine 1 (κ, tt) ps a) _ $
              alloc1 ! (λ l₀. alloc1 ! (λ l₁. alloc_all ! ps (λ bs. alloc1 ! (λ l₂. alloc1 ! (λ l₃. alloc1 ! (λ l₄.
              alloc0 ! $
              params1 ! $ pass1 ! (init ! 7 refl (tt, tt)) $ move ! (6 ∷ []) $ pass_all 1 (κ, tt) ! ps bs a is $
              pass0 ! $
              move ! (11 ∷ 12 ∷ 13 ∷ []) $ opens ! tt R {h = h} b o (λ vs.
              spelt ! R (Is R) (shows 𝓛 R) vals (LL.tells T L) full_share h vs b o $
              move ! (1 ∷ []) $ peeks ! R (Is R) (shows 𝓛 R) h (vals h) (λ was. drop ! $
              -- [the cell; the open borrow; obs; auth; ps; room for the next state; …; state; …; result; …;
              -- reference; …; room for the answer; …; need; …]
              assigns ! (of_opd ! (load ! (from ! (hop ! (look ! 11 refl) (stop !))) (look_raw ! 0 refl)))
              (from_at ! (after_env ps bs (rest l₂ l₃ l₄) 1) (stop !))
              (init ! 7 refl ((LL.lawful T L 𝓛).typed h _ was).0) $
              move ! (15 ∷ []) $ use1 𝓛 (raw ((Callee 𝓤 need 𝓛).pre to))
              (con.asked T L ps D 𝓛 need Said h a' plainR was (known_across 1 0 (κ, tt) tt ps a is)) $
              calls_at ! fm (Callee 𝓤 need 𝓛) known to
              (and_then ! (load ! (from_at ! (after_env ps bs (rest l₂ l₃ l₄) 1) (stop !)) (look ! 8 refl))
              (read_all 𝓛 1 (κ, tt) 0 tt ps bs a 5 _ _ (rest l₂ l₃ l₄) (λ k. suc (suc k)) (λ j d. refl) refl !))
              (λ v. con.gave T L ps D 𝓛 need Said h a' ! tt v (λ d e isV.
              rewrite ! 0 (λ (us : List Val). ‵ (D.own_val d us)) (P.tells d (v ∷ []) isV) refl $
              peeks ! D (Is D) (shows 𝓛 D) d (val_d d ∷ []) (λ isD. drop ! $
              land ! (from_at ! (after_env ps bs (rest l₂ l₃ l₄) 0) (stop !))
              (init ! 9 refl
              (subst⁻¹ (λ (us : List Val). Holds (has_ty τD (only us)) × WT (only us)) (P.tells d (v ∷ []) isV)
              (P.typed 𝓛 d isD))) $
              rewrite ! 9 (λ (u : Val). ‵ (fat full_share τD l₂ 0 u)) (ap only (P.tells d (v ∷ []) isV)) refl $
              assigns !
              (of_opd ! (load ! (from_at ! (after_env ps bs (rest l₂ l₃ l₄) 0) (fld ! refl (stop !)))
              (look_in ! 9 (sub ! 1 refl (whole !)))))
              (from_at ! (after_env ps bs (rest l₂ l₃ l₄) 2) (stop !))
              (init ! 5 refl ((LL.lawful T L 𝓛).typed (P.next d) _ (P.next_is_lem d isD)).0) $
              assigns ! (of_opd ! (load ! (from_at ! (after_env ps bs (rest l₂ l₃ l₄) 2) (stop !)) (look ! 5 refl)))
              (from ! (hop ! (look ! 11 refl) (stop !)))
              (store_raw ! 0 refl ((LL.lawful T L 𝓛).typed (P.next d) _ (P.next_is_lem d isD)).0) $
              assigns !
              (of_opd ! (load ! (from_at ! (after_env ps bs (rest l₂ l₃ l₄) 0) (fld ! refl (stop !)))
              (look_in ! 9 (sub ! 0 refl (whole !)))))
              (from ! (stop !)) (init ! 13 refl (S.typed 𝓛 (P.answer d) (P.answer_is d isD))) $
              owned ! R (Is R) (LL.makes T plainR 𝓛) (P.next d) _ (P.next_is_lem d isD) $ move ! (1 ∷ 0 ∷ []) $
              closes ! tt R (P.next d) (vals (P.next d)) b o $
              -- [obs; the borrow; the token; ps; next state; …; state; …; result; …; reference; …; answer; …]
              returns ! (look ! 12 refl) $ forget ! 4 refl $ forget ! 6 refl $ forget ! 8 refl $ forget ! 10 refl $
              forget ! 12 refl $
              move ! (3 ∷ []) $ use1 𝓛 (‵ (rooms ps bs)) (forget_all 𝓛 1 (κ, tt) ps bs a) $
              move ! (12 ∷ 13 ∷ []) $ free1 ! $ move ! (10 ∷ 11 ∷ []) $ free1 ! $ free_all ! ps bs $
              move ! (7 ∷ 8 ∷ []) $ free1 ! $ move ! (5 ∷ 6 ∷ []) $ free1 ! $ move ! (3 ∷ 4 ∷ []) $ free1 ! $ free0 ! $
              keep ! (0 ∷ 1 ∷ 2 ∷ []) $ by ! (exits d e isD))))))))))))

      -- ---- the law

      pub thin : Closed 𝓤 H (tables 𝓤 H 𝓜 𝓡 γ).C (tables 𝓤 H 𝓜 𝓡 γ).Λ name (function g)
          → (r : Routine) → γ g ≡ r → Triple 𝓤 (𝓡.run r) (Callee 𝓤 need 𝓛)
          → Meets 𝓛 ended.signature (𝓡.run (γ name)) (closing 𝓛 ended (clauses 𝓤 need))
      thin =
          by_walk 𝓛 𝓜 𝓡 γ ended stayed (clauses 𝓤 need) (Callee 𝓤 need 𝓛)
          (Goes-ref 𝓛 1 0 tt (plain (λ _. R)), goes 1 𝓛 ps) name g (function g)
          (λ C Λ fm known. walked 𝓛 ended stayed (clauses 𝓤 need) (WpFn 𝓤 H C Λ (function g))
          (λ κs. (mut_vals, spells 1 κs ps)) (λ κs. (mut_Tells (named 0) κs.0 R, tell 1 κs ps))
          (λ κs qs bounds a _ are. walk κs.0 qs.0 a.0.ref_ptr.0 a.0.ref_ptr.1
          a.0.ghost_name a.0.now a.1 are.1 C Λ fm known))
