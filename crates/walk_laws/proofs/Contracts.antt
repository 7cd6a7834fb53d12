-- The contracts that the laws relate, of a state of type R and further parameters ps:
--     fn g(s: R, ps) -> S          by_value..: it requires need h a, and ensures Said h a r of its result
--     fn g(s: &R, ps) -> S         shared..: the same of the state that is lent
--     fn g(s: &mut R, ps) -> S     lent..: it ensures Claim h a r h' of the state h' at exit
-- In order: these; what a by-value function asks of its caller, and gives; what one on a lent state asks. Assumes
-- nothing.
use Prim.Native.Nat.{ℕ}
use mathlib.Core.Path.{◌≡◌, refl, sym}
use mathlib.Core.List.{[], ◌∷◌, List}
use seplogic.Ra.Ura.{Ura}
use base.Fraction.{full_share}
use mir.Syntax.{named}
use mir.Val.{Val, vptr}
use base.Logic.{SProp, ent, snd∗, ex_e, id⊢}
use base.Fml.{GName, ftrue, flft}
use types.Logic.{Logic, sem}
use contract.Monad.{fact}
use types.Kit.{Item, Goal, Soaks, Seq, ‵, raw, ◌⊛◌, some, later, ⋆, ◌$◌, ◌∵◌, !, qed, move, drop, use0, use1}
use types.Kit.{split, join, pick, rewrite, fjoin, frame, await, done}
use denote.RattleType.{RattleType, owns}
use denote.Laws.{Is, shows}
use denote.Ref.{MutBor, MutRef}
use denote.Signature.{Slot, plain, shr_ref_to, mut_ref_to}
use denote.Steps.{owned, peeks, heard, nothing}
use denote.Struct.Declared.{Declared, fields, row}
use denote.Struct.Struct.{Plains}
use denote.Struct.Laws as LL
use denote.Triple.Statement.{Contract}
use denote.Triple.Clauses.{Clauses, Ended, closing, ensured, lasts}
use denote.Triple.Spec.{triple_of}
use denote.Exit.{yes}
use Rattle.walk_laws.proofs.Data.{Data}
use Rattle.walk_laws.proofs.Parameters.{slots, kept, rows, Values, lists, Known, made, across, known_across}
use Rattle.walk_laws.proofs.Parameters.{across_back}

module _ (R : RattleType) (ps : List Data) (S : RattleType) where
  -- the state at the slot s, in a signature of n lifetimes
  abbrev at : (n : ℕ) → Slot n → Ended
  at n s =
      record {
        signature = record { lifetimes = n; outlives = []; params = s ∷ slots n ps; result = plain (λ _. S) };
        kept = (yes, kept n ps);
      }

  abbrev pub by_value : Ended
  by_value = at 0 (plain (λ _. R))

  abbrev pub shared : Ended
  shared = at 1 (shr_ref_to (0 ∷ []) tt (plain (λ _. R)))

  abbrev pub lent : Ended
  lent = at 1 (mut_ref_to (0 ∷ []) tt (plain (λ _. R)))

  module _ {M : Type 1} (𝓤 : Ura M) (need : R.Denot → Values 0 tt ps → SProp 𝓤) where
    module _ (Said : R.Denot → Values 0 tt ps → S.Denot → Type 0) where
      abbrev pub by_value_clauses : Clauses 𝓤 by_value
      by_value_clauses κs a =
          record {
            ghost = Unit {0};
            requires = λ _. need a.0 a.1;
            ensures = λ _ r e. fact 𝓤 (Said a.0 a.1 r);
          }

      abbrev pub ByValue : (𝓛 : Logic 𝓤) → Contract 𝓤
      ByValue 𝓛 = triple_of 𝓛 by_value.signature (closing 𝓛 by_value by_value_clauses)

      abbrev pub shared_clauses : Clauses 𝓤 shared
      shared_clauses κs a =
          record {
            ghost = Unit {0};
            requires = λ _. need a.0.now (across 1 0 κs tt ps a.1);
            ensures = λ _ r e. fact 𝓤 (Said a.0.now (across 1 0 κs tt ps a.1) r);
          }

    module _ (Claim : R.Denot → Values 0 tt ps → S.Denot → R.Denot → Type 0) where
      abbrev pub lent_clauses : Clauses 𝓤 lent
      lent_clauses κs a =
          record {
            ghost = Unit {0};
            requires = λ _. need a.0.now (across 1 0 κs tt ps a.1);
            ensures = λ _ r e. fact 𝓤 (Claim a.0.now (across 1 0 κs tt ps a.1) r e.0.now);
          }

      abbrev pub Lent : (𝓛 : Logic 𝓤) → Contract 𝓤
      Lent 𝓛 = triple_of 𝓛 lent.signature (closing 𝓛 lent lent_clauses)

module _ (T : Declared) (L : LL.Laws T) (ps : List Data) (S : RattleType) {M : Type 1} {𝓤 : Ura M} (𝓛 : Logic 𝓤)
    (need : T.D → Values 0 tt ps → SProp 𝓤) where
  open 𝓛 use {H}

  abbrev R : RattleType
  R = row T

  abbrev vals : T.D → List Val
  vals = LL.vals T L

  -- ---- by value

  module _ (Said : T.D → Values 0 tt ps → S.Denot → Type 0) (h : T.D) (a : Values 0 tt ps) where
    abbrev pub to : (ByValue R ps S 𝓤 need Said 𝓛).Ghost
    to = ((tt, tt, tt, (h, a), (vals h, lists 0 tt ps a)), tt)

    pub asked : Plains (fields T) → Is R h (vals h) → Known 0 tt ps a
        → ent 𝓤 (need h a) ((ByValue R ps S 𝓤 need Said 𝓛).pre to)
    asked plainR was is =
        qed 𝓛 (raw (need h a) ∷ []) ∵
        use0 𝓛 (‵ (owns (rows 0 tt ps) a (lists 0 tt ps a))) (made 0 tt 𝓛 ps a is) $
        owned ! R (Is R) (LL.makes T plainR 𝓛) h _ was $ fjoin ! $ nothing ! $ join ! $ frame ! $ done !

    said : (d : S.Denot)
        → ent 𝓤 (ensured 𝓛 (by_value R ps S) (by_value_clauses R ps S 𝓤 need Said) tt (h, a) tt d)
        (fact 𝓤 (Said h a d))
    said d = ex_e 𝓤 _ (λ ws. snd∗ 𝓤 (sem 𝓛 (lasts (by_value R ps S) tt (h, a) ws)) (fact 𝓤 (Said h a d)))

    pub gave : {K : Type 0} {Γ : List (Item 𝓤)} {G : Goal 𝓤 H} → K → Soaks G → (v : Val)
        → ((d : S.Denot) → Said h a d → Is S d (v ∷ []) → Seq K 𝓛 (‵ (S.own_val d (v ∷ [])) ∷ Γ) G)
        → Seq K 𝓛 (raw ((ByValue R ps S 𝓤 need Said 𝓛).post to v) ∷ Γ) G
    gave t soaks v k =
        use1 𝓛
        (later (some (λ (d : S.Denot). (‵ ftrue ⊛ ‵ (S.own_val d (v ∷ []))) ⊛ raw
        (ensured 𝓛 (by_value R ps S) (by_value_clauses R ps S 𝓤 need Said) tt (h, a) tt d)))) (id⊢ 𝓤 _) $
        await t soaks $ pick t (λ d. split t $ move t (1 ∷ []) $ use1 𝓛 (raw (fact 𝓤 (Said h a d))) (said d) $
        heard t (Said h a d) (λ e. split t $ drop t $ peeks t S (Is S) (shows 𝓛 S) d (v ∷ []) (k d e)))

  -- ---- on a state lent for the lifetime α, under the name δ, at the block l

  module _ (Claim : T.D → Values 0 tt ps → S.Denot → T.D → Type 0) (h : T.D) (a : Values 0 tt ps) (l α : ℕ)
      (δ : GName) where
    abbrev pub x : MutBor T.D
    x = record { ref_ptr = (l, 0); ghost_name = δ; now = h }

    -- the parameters as g has them, and as its clauses have them
    abbrev pub a' : Values 1 (α ∷ [], tt) ps
    a' = across 0 1 tt (α ∷ [], tt) ps a

    abbrev pub a'' : Values 0 tt ps
    a'' = across 1 0 (α ∷ [], tt) tt ps a'

    pub back : a'' ≡ a
    back = across_back 0 1 tt (α ∷ [], tt) ps a

    abbrev pub to_lent : (Lent R ps S 𝓤 need Claim 𝓛).Ghost
    to_lent =
        (((α ∷ [], tt), (full_share, tt), tt, (x, a'), (vptr l 0 ∷ [], lists 1 (α ∷ [], tt) ps a')), tt)

    pub asked_lent : Known 0 tt ps a
        → ent 𝓤
        (⋆ 𝓛 (‵ ((MutRef (named 0) (α ∷ []) R).own_val x (vptr l 0 ∷ [])) ∷ ‵ (flft (α ∷ []) full_share)
        ∷ raw (need h a) ∷ []))
        ((Lent R ps S 𝓤 need Claim 𝓛).pre to_lent)
    asked_lent is =
        qed 𝓛 (‵ ((MutRef (named 0) (α ∷ []) R).own_val x (vptr l 0 ∷ [])) ∷ ‵ (flft (α ∷ []) full_share)
        ∷ raw (need h a) ∷ []) ∵
        rewrite ! 2 (λ (v : Values 0 tt ps). raw (need h v)) (sym back) refl $
        use0 𝓛 (‵ (owns (rows 1 (α ∷ [], tt) ps) a' (lists 1 (α ∷ [], tt) ps a')))
        (made 1 (α ∷ [], tt) 𝓛 ps a' (known_across 0 1 tt (α ∷ [], tt) ps a is)) $
        move ! (1 ∷ 0 ∷ []) $ fjoin ! $ nothing ! $ move ! (2 ∷ 0 ∷ []) $ join ! $ join ! $ frame ! $ done !
