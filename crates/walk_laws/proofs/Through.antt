-- Plain parameters above a function that moves a state in place, once for every such pair and any further parameters
-- ps:
--     fn f(s: R, ps) -> D { let mut k = s; let m = g(&mut k, ps); D { answer: m, next: k } }
-- All types are plain data, and D is a struct of two fields. So whoever calls f needs no walk.
--     need h a         what both require of the state h and the parameters' values a
--     Claim h a s h'   what g ensures of its answer s and the state h' at exit;  Said h a d: what f ensures of its
--                      result d
--     ended, clauses, function                 f's, to which what `rattle check` makes of f computes
--     thin             f meets its contract, from that g does, and that Claim gives Said
-- In order: the two functions, f's exit, the walk, the law. Assumes nothing.
use Prim.Native.Nat.{ℕ, suc}
use mathlib.Core.Path.{◌≡◌, refl, ap, subst}
use mathlib.Core.List.{[], ◌∷◌, List}
use seplogic.Ra.Ura.{Ura}
use base.Fraction.{full_share}
use lib.Dec.{T as Holds}
use mir.Syntax.{Callee as Name, Sym, Ty, ty_ref, named, erased, mut, place, copy, rv_opd, addr_of, aggregate, seq, assign}
use mir.Syntax.{call, return, local, value_local, memory_slot, Fn}
use mir.Val.{Val, WT, has_ty, vptr}
use base.Logic.{SProp, ent, sep, id⊢}
use base.Fml.{GName, ftrue, flft, flent, fat}
use prog.Wp.{Calls, Loops, WpFn, Closed}
use types.Logic.{Logic}
use contract.Monad.{fact}
use contract.Running.{Running, tables}
use prog.Model.{Model}
use prog.Routine.{Routine, Env}
use types.Kit.{‵, raw, given, ◌⊛◌, ⋆, some, later, ◌$◌, ◌∵◌, !, qed, by, move, keep, drop, use0, use1, use3}
use types.Kit.{split, learn, pick, rewrite, fsplit, fjoin, suffices, frame, await, done}
use types.Part.{agg}
use types.Run.{look, init, forget, stop, from, load, of_opd, addr, and_then, no_more, assigns, land, returns, enter}
use types.Run.{alloc1, alloc0, params1, pass1, pass0, free1, free0}
use types.SemTy.{Body}
use types.Tokens.{lft_new, lft_end}
use sound.WpLaws.{FmC}
use denote.RattleType.{RattleType, owns}
use denote.Laws.{Is, shows}
use denote.Lend.{lends_ref, ref_back}
use denote.Memory.{mem, pointee}
use denote.Ref.{MutBor, MutRef}
use denote.Steps.{only, owned, peeks, heard}
use denote.Struct.Declared.{Declared, fields, shape, row}
use denote.Struct.Struct.{Plains, layout}
use denote.Struct.Laws as LL
use denote.Triple.Statement.{Contract, Triple}
use denote.Triple.Call.{calls_at}
use denote.Triple.Clauses.{Clauses, Ended, closing, ensured, lasts}
use denote.Triple.End.{Fins}
use denote.Triple.Entry.{on_entry}
use denote.Triple.Spec.{Meets}
use denote.Triple.Walked.{says, Stays, stay_none, has_of, walk_of, Goes-none, ends_at, walked}
use denote.Exit.{Last, left, yes}
use Rattle.walk_laws.proofs.Answered.{both, both_types}
use Rattle.walk_laws.proofs.Calling.{by_walk}
use Rattle.walk_laws.proofs.Contracts as con
use Rattle.walk_laws.proofs.Data.{Data, typed_at}
use Rattle.walk_laws.proofs.Lying.{lies_in, lies_out}
use Rattle.walk_laws.proofs.Parameters.{slots, kept, stay, rows, Values, spells, tell, lists, machine, Known}
use Rattle.walk_laws.proofs.Parameters.{finals, fits, had, goes, across, across_back}
use Rattle.walk_laws.proofs.Passing.{locals, after, after_env, operands, rooms, from_at, alloc_all, pass_all}
use Rattle.walk_laws.proofs.Passing.{forget_all, read_all, free_all}

module _ (T : Declared) (L : LL.Laws T) (ps : List Data) (S D : Data) (ν : Sym)
    (make : S.type.Denot → T.D → D.type.Denot) (Said : T.D → Values 0 tt ps → D.type.Denot → Type 0)
    (Claim : T.D → Values 0 tt ps → S.type.Denot → T.D → Type 0) where
  abbrev R : RattleType
  R = row T

  abbrev τR : Ty
  τR = layout (shape T)

  abbrev τD : Ty
  τD = both_types T ν S

  abbrev τK : Ty
  τK = ty_ref erased mut (pointee R.written)

  -- ---- the two functions

  abbrev pub ended : Ended
  ended = con.by_value R ps D.type

  abbrev stayed : Stays ended.signature.params ended.kept
  stayed = (stay_none (λ _. R) yes, stay 0 ps)

  -- the place of f's local k of those after its result, the state and the parameters: the state that is lent, the
  -- answer, the reference, the state at exit
  abbrev place_of : ℕ → ℕ
  place_of k = suc (suc (after ps k))

  abbrev rest : ℕ → ℕ → ℕ → ℕ → List (Ty × ℕ)
  rest l₂ l₃ l₄ l₅ = (τR, l₂) ∷ (S.mir, l₃) ∷ (τK, l₄) ∷ (τR, l₅) ∷ []

  abbrev pub function : Name → Fn
  function g =
      record {
        lifetimes = 0;
        outlives = [];
        ty_params = [];
        givens = 0;
        params = suc (after ps 0);
        locals =
            local τD value_local
            ∷ local τR value_local
            ∷ locals ps
            (local τR memory_slot ∷ local S.mir value_local ∷ local τK value_local ∷ local τR value_local ∷ []);
        body =
            seq (assign (place (place_of 0) []) (rv_opd (copy (place 1 []))))
            (seq (assign (place (place_of 2) []) (addr_of (place (place_of 0) [])))
            (seq (call g (copy (place (place_of 2) []) ∷ operands (λ k. suc (suc k)) ps) (place (place_of 1) []))
            (seq (assign (place (place_of 3) []) (rv_opd (copy (place (place_of 0) []))))
            (seq
            (assign (place 0 [])
            (aggregate (copy (place (place_of 1) []) ∷ copy (place (place_of 3) []) ∷ []))) return))));
      }

  module _ {M : Type 1} (𝓤 : Ura M) (need : T.D → Values 0 tt ps → SProp 𝓤) where
    abbrev pub clauses : Clauses 𝓤 ended
    clauses = con.by_value_clauses R ps D.type 𝓤 need Said

    abbrev pub Callee : (𝓛 : Logic 𝓤) → Contract 𝓤
    Callee = con.Lent R ps S.type 𝓤 need Claim

  module _ (plainR : Plains (fields T)) (lastR : (x : T.D) → Last (R.exit yes) x)
      (silentR : (x : T.D) (f : Last (R.exit yes) x) → left (R.exit yes) x f ≡ ftrue)
      (mir_is : D.mir ≡ τD) where
    abbrev vals : T.D → List Val
    vals = LL.vals T L

    abbrev val_d : S.type.Denot → T.D → Val
    val_d s h = both T L S s h

    module _ (val_is : (s : S.type.Denot) (h : T.D) → D.val (make s h) ≡ val_d s h)
        (make_is : (s : S.type.Denot) (h : T.D) → Is S.type s (S.val s ∷ []) → Is R h (vals h)
        → Is D.type (make s h) (D.val (make s h) ∷ []))
        {M : Type 1} {𝓤 : Ura M} (𝓛 : Logic 𝓤) (𝓜 : Model 𝓤 𝓛.H) (𝓡 : Running 𝓤 𝓛.H 𝓜)
        (need : T.D → Values 0 tt ps → SProp 𝓤)
        (claims : (h : T.D) (a : Values 0 tt ps) (s : S.type.Denot) (h' : T.D) → Claim h a s h' → Said h a
        (make s h'))
        (γ : Env) (name g : Name) where
      open 𝓛 use {H}

      module _ (h : T.D) (a : Values 0 tt ps) (isR : Is R h (vals h)) (is : Known 0 tt ps a) where
        abbrev Post : Val → SProp 𝓤
        Post = (walk_of 𝓛 ended stayed (clauses 𝓤 need)).post ((tt, tt, tt, (h, a), (vals h, lists 0 tt ps a)), tt)

        -- the state lent for the lifetime α, under the name δ, at the block l; and the parameters, as g has them and
        -- as its clauses have them
        abbrev x : ℕ → ℕ → GName → MutBor T.D
        x = con.x T L ps S.type 𝓛 need Claim h a

        abbrev a' : (α : ℕ) → Values 1 (α ∷ [], tt) ps
        a' α = across 0 1 tt (α ∷ [], tt) ps a

        abbrev a'' : ℕ → Values 0 tt ps
        a'' α = across 1 0 (α ∷ [], tt) tt ps (a' α)

        abbrev to : (l α : ℕ) → GName → (Callee 𝓤 need 𝓛).Ghost
        to = con.to_lent T L ps S.type 𝓛 need Claim h a

        -- ---- f's exit

        exits : (s : S.type.Denot) (h' : T.D) → Claim h a s h' → Is S.type s (S.val s ∷ []) → Is R h' (vals h')
            → ent 𝓤 (⋆ 𝓛 (‵ ftrue ∷ [])) (Post (D.val (make s h')))
        exits s h' e isS isR' =
            qed 𝓛 (‵ ftrue ∷ []) ∵
            suffices ! _
            (ends_at 𝓛 ended stayed (clauses 𝓤 need) ((tt, tt, tt, (h, a), (vals h, lists 0 tt ps a)), tt) _
            (make s h') (lastR h, finals 0 tt ps a) (tt, fits 0 tt ps a)) $
            says ! (claims h a s h' e) $ frame ! $
            use0 𝓛 (‵ (has_of tt (slots 0 ps) (kept 0 ps) (stay 0 ps) a (finals 0 tt ps a) (lists 0 tt ps a)))
            (had 0 tt 𝓛 ps a is) $
            owned ! R (Is R) (LL.makes T plainR 𝓛) h _ isR $ fjoin ! $ frame ! $
            owned ! D.type (Is D.type) (D.makes 𝓛) (make s h') _ (make_is s h' isS isR') $ done !

        -- ---- the walk

        typed_r : (h' : T.D) → Is R h' (vals h') → Holds (has_ty τR (LL.val T L h')) × WT (LL.val T L h')
        typed_r h' isR' = ((LL.lawful T L 𝓛).typed h' _ isR').0

        typed_d : (s : S.type.Denot) (h' : T.D) → Is S.type s (S.val s ∷ []) → Is R h' (vals h')
            → Holds (has_ty τD (val_d s h')) × WT (val_d s h')
        typed_d s h' isS isR' =
            subst (λ (u : Val). Holds (has_ty τD u) × WT u) (val_is s h')
            (subst (λ (τ : Ty). Holds (has_ty τ (D.val (make s h'))) × WT (D.val (make s h'))) mir_is
            (D.typed 𝓛 (make s h') (make_is s h' isS isR')))

        module _ (C : Calls 𝓤 H) (Λ : Loops 𝓤 H) (fm : FmC 𝓤 H 𝓛.laws C)
            (known : Triple 𝓤 (C g) (Callee 𝓤 need 𝓛)) where
          walk : ent 𝓤
              (sep 𝓤 (on_entry 𝓛 ended.signature tt tt (h, a) (vals h, lists 0 tt ps a)) (need h a))
              (WpFn 𝓤 H C Λ (function g) (LL.val T L h ∷ machine 0 tt ps a) Post)
          walk =
              qed 𝓛 ((‵ ftrue ⊛ ‵ (owns (R ∷ rows 0 tt ps) (h, a) (vals h, lists 0 tt ps a))) ∷ raw (need h a) ∷ []) ∵
              move ! (1 ∷ []) $ enter ! C Λ (function g) (LL.val T L h ∷ machine 0 tt ps a) _ $
              alloc1 ! (λ l₀. alloc1 ! (λ l₁. alloc_all ! ps (λ bs.
              alloc1 ! (λ l₂. alloc1 ! (λ l₃. alloc1 ! (λ l₄. alloc1 ! (λ l₅. alloc0 ! $ params1 ! $
              pass1 ! (init ! 9 refl (typed_r h isR)) $ move ! (8 ∷ []) $ pass_all 0 tt ! ps bs a is $ pass0 ! $
              -- [ps; room at exit; …; for the reference; …; for the answer; …; for the state; …; s; …; for the
              -- result; …; need; …]
              assigns ! (of_opd ! (load ! (from ! (stop !)) (look ! 9 refl)))
              (from_at ! (after_env ps bs (rest l₂ l₃ l₄ l₅) 0) (stop !))
              (init ! 7 refl (typed_r h isR)) $
              assigns ! (addr ! (from_at ! (after_env ps bs (rest l₂ l₃ l₄ l₅) 0) (stop !)))
              (from_at ! (after_env ps bs (rest l₂ l₃ l₄ l₅) 2) (stop !))
              (init ! 3 refl (tt, tt)) $
              -- the state is lent, for a lifetime α of the call
              move ! (7 ∷ []) $ use1 𝓛 (‵ ((mem R).own_at h l₂ 0)) (lies_in T L 𝓛 plainR h l₂ 0 isR) $
              lft_new ! tt (λ α. move ! (1 ∷ []) $
              use1 𝓛
              (later (some (λ (δ : GName).
              ‵ ((MutRef (named 0) (α ∷ []) R).own_val (x l₂ α δ) (vptr l₂ 0 ∷ [])) ⊛ ‵
              (flent (α ∷ []) (Body (mem R) l₂ 0 δ)))))
              (lends_ref 𝓛 R (named 0) (α ∷ []) h l₂ 0) $ await ! tt $ pick ! (λ δ. split ! $
              -- [the reference; the lender's part; the lifetime's token; ps; …; need; …]
              move ! (0 ∷ 2 ∷ 15 ∷ []) $ use3 𝓛 (raw ((Callee 𝓤 need 𝓛).pre (to l₂ α δ)))
              (con.asked_lent T L ps S.type 𝓛 need Claim h a l₂ α δ is) $
              calls_at ! fm (Callee 𝓤 need 𝓛) known (to l₂ α δ)
              (and_then ! (load ! (from_at ! (after_env ps bs (rest l₂ l₃ l₄ l₅) 2) (stop !)) (look ! 5 refl))
              (read_all 𝓛 0 tt 1 (α ∷ [], tt) ps bs a 2 _ _ (rest l₂ l₃ l₄ l₅)
              (λ k. suc (suc k)) (λ j d. refl) refl !))
              (λ v.
              use1 𝓛
              (later (some (λ (s : S.type.Denot).
              ((‵ (flft (α ∷ []) full_share) ⊛ ‵ ftrue) ⊛ ‵ (S.type.own_val s (v ∷ [])))
              ⊛ raw (ensured 𝓛 (con.lent R ps S.type) (con.lent_clauses R ps S.type 𝓤 need Claim)
              (α ∷ [], tt) (x l₂ α δ, a' α) tt s)))) (id⊢ 𝓤 _) $
              await ! tt $ pick ! (λ s. split ! $ move ! (1 ∷ []) $
              use1 𝓛
              (some (λ (ws : T.D × Fins (α ∷ [], tt) (slots 1 ps) (kept 1 ps) (a' α)).
              ‵ (lasts (con.lent R ps S.type) (α ∷ [], tt) (x l₂ α δ, a' α) ws) ⊛ raw
              (fact 𝓤 (Claim h (a'' α) s ws.0))))
              (id⊢ 𝓤 _) $
              pick ! (λ ws. split ! $ move ! (1 ∷ []) $ heard ! (Claim h (a'' α) s ws.0) (λ e. fsplit ! $
              move ! (2 ∷ []) $ split ! $ move ! (1 ∷ []) $
              peeks ! S.type (Is S.type) (shows 𝓛 S.type) s (v ∷ []) (λ isV.
              rewrite ! 0 (λ (us : List Val). ‵ (S.type.own_val s us)) (S.tells s (v ∷ []) isV) refl $
              peeks ! S.type (Is S.type) (shows 𝓛 S.type) s (S.val s ∷ []) (λ isS. drop ! $
              -- [the token; the state's last value and its borrow; …; the lender's part; ps; …]
              land ! (from_at ! (after_env ps bs (rest l₂ l₃ l₄ l₅) 1) (stop !))
              (init ! 9 refl (typed_at S 𝓛 s v isV)) $
              rewrite ! 9 (λ (u : Val). ‵ (fat full_share S.mir l₃ 0 u)) (ap only (S.tells s (v ∷ []) isV)) refl $
              -- the lifetime is ended, and the state comes back at its last value
              split ! $ lft_end ! tt $ move ! (2 ∷ []) $ fsplit ! $ move ! (1 ∷ []) $ drop ! $ move ! (1 ∷ 4 ∷ 0 ∷ []) $
              use3 𝓛 (later (‵ ((mem R).own_at ws.0 l₂ 0))) (ref_back 𝓛 R (α ∷ []) δ ws.0 l₂ 0) $ await ! tt $
              use1 𝓛 (given (Is R ws.0 (vals ws.0)) (‵ (fat full_share τR l₂ 0 (LL.val T L ws.0))))
              (lies_out T L 𝓛 τR refl ws.0 l₂ 0) $ learn ! (λ isR'.
              -- [the state; …; …; ps; room at exit; …; the reference; …; the answer; …; …; s; …; room for the
              -- result; …]
              assigns !
              (of_opd ! (load ! (from_at ! (after_env ps bs (rest l₂ l₃ l₄ l₅) 0) (stop !)) (look ! 0 refl)))
              (from_at ! (after_env ps bs (rest l₂ l₃ l₄ l₅) 3) (stop !))
              (init ! 4 refl (typed_r ws.0 isR')) $
              assigns !
              (agg !
              (and_then ! (load ! (from_at ! (after_env ps bs (rest l₂ l₃ l₄ l₅) 1) (stop !)) (look ! 8 refl))
              (and_then ! (load ! (from_at ! (after_env ps bs (rest l₂ l₃ l₄ l₅) 3) (stop !)) (look ! 4 refl))
              (no_more !))))
              (from ! (stop !)) (init ! 13 refl (typed_d s ws.0 isS isR')) $
              returns ! (look ! 13 refl) $ forget ! 0 refl $ forget ! 4 refl $ forget ! 6 refl $ forget ! 8 refl $
              forget ! 11 refl $ forget ! 13 refl $
              move ! (3 ∷ []) $ use1 𝓛 (‵ (rooms ps bs)) (forget_all 𝓛 0 tt ps bs a) $
              move ! (13 ∷ 14 ∷ []) $ free1 ! $ move ! (11 ∷ 12 ∷ []) $ free1 ! $ free_all ! ps bs $
              move ! (0 ∷ 9 ∷ []) $ free1 ! $ move ! (6 ∷ 7 ∷ []) $ free1 ! $ move ! (4 ∷ 5 ∷ []) $ free1 ! $
              move ! (2 ∷ 3 ∷ []) $ free1 ! $ free0 ! $ keep ! (0 ∷ []) $
              by ! (subst (λ (u : Val). ent 𝓤 (⋆ 𝓛 (‵ ftrue ∷ [])) (Post u)) (val_is s ws.0)
              (exits s ws.0 (subst (λ (w : Values 0 tt ps). Claim h w s ws.0)
              (across_back 0 1 tt (α ∷ [], tt) ps a) e) isS isR'))))))))))))))))))

      -- ---- the law

      pub thin : Closed 𝓤 H (tables 𝓤 H 𝓜 𝓡 γ).C (tables 𝓤 H 𝓜 𝓡 γ).Λ name (function g)
          → (r : Routine) → γ g ≡ r → Triple 𝓤 (𝓡.run r) (Callee 𝓤 need 𝓛)
          → Meets 𝓛 ended.signature (𝓡.run (γ name)) (closing 𝓛 ended (clauses 𝓤 need))
      thin =
          by_walk 𝓛 𝓜 𝓡 γ ended stayed (clauses 𝓤 need) (Callee 𝓤 need 𝓛)
          (Goes-none 𝓛 0 (λ _. R) yes (λ κs. silentR), goes 0 𝓛 ps) name g (function g)
          (λ C Λ fm known. walked 𝓛 ended stayed (clauses 𝓤 need) (WpFn 𝓤 H C Λ (function g))
          (λ κs. (vals, spells 0 tt ps)) (λ κs. (LL.tells T L, tell 0 tt ps))
          (λ κs qs bounds a _ are. walk a.0 a.1 are.0 are.1 C Λ fm known))
