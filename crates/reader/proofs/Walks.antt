-- What the walks over a `Reader` share. In order: the types of the struct and of the slice; what the struct owns, of
-- what the slice owns; a core call, which takes the struct's fields; what the struct owns taken apart for such a call;
-- such a call proved by a walk; the struct put together at two other numbers; what the core calls return. Assumes
-- nothing.
use mathlib.Core.Path.{◌≡◌, refl}
use Prim.Native.Nat.{ℕ, ◌<◌, ◌^◌}
use mathlib.Core.List.{List, [], ◌∷◌}
use lib.ListN.{length}
use seplogic.Ra.Ura.{Ura}
use mir.Syntax.{Fn, Lifetime, named, w64}
use mir.Val.{Val, vint}
use base.Logic.{SProp, ent, sep, via, snd∗, ex_e}
use base.Fml.{Lft, Share, Fml, ftrue, flft}
use prog.Wp.{WpFn, Tables}
use types.Logic.{Logic, sem}
use contract.Lifetimes.{Lfts}
use contract.Monad.{fact}
use types.Kit.{suffices, join, ‵, raw, ◌⊛◌, given, ⋆, ◌$◌, ◌∵◌, !, qed, by, move, drop, use1, use2, split}
use types.Kit.{learn, fjoin, frame, done}
use denote.RattleType.{RattleType, owns}
use denote.Laws.{Is}
use sound.WpLaws.{WpFn-mono}
use denote.Plain.{uint_vals, uint_Tells, uint_Makes}
use denote.Builtin.{u8, usize, SliceRefOf}
use denote.Ref.{Bor, NamedLft}
use denote.Signature.{Signature, Slot, plain}
use denote.Slice.{slice_val, ShrSlice, shr_slice_vals, shr_slice_Tells}
use denote.Steps.{owned, nothing}
use denote.Struct.Laws as LL
use denote.Struct.Rest.{all_own, field_own, rest, own_open, own_shut, own_out, own_put}
use denote.Exit.{yes}
use denote.Triple.Clauses.{Clauses, Ended, closing, ensured, lasts}
use denote.Triple.Entry.{on_entry}
use denote.Triple.Spec.{Meets, triple_of}
use denote.Triple.Statement.{Contract}
use denote.Triple.Walked.{says, needs, Stays, stay_none, stay_none_slice, walk_of, Goes-none, Goes-none_slice, ends_at}
use denote.Triple.Walked.{walked, walk_Meets}
use Rattle.places.specs.Places.{taken_at, Stands}
use Rattle.reader.specs.Reading.{Standing}
use Rattle.reader.specs.declared.Reader.{Reader}
use Rattle.std.specs.Prelude.{Option}
use Rattle.rule.specs.declared.Request.{Request}
use Rattle.places.specs.declared.Taken.{Taken}
use Rattle.reader.specs.contracts.Reader as T
use Rattle.reader.proofs.Reader.TheLaws as T'
use Rattle.walk_laws.proofs.Data.{Data, struct, enum}
use Rattle.places.specs.contracts.Taken as D
use Rattle.places.proofs.Taken.TheLaws as D'

abbrev pub B : NamedLft → RattleType
B α = T.the_row α

abbrev pub slice_of : Bor (List ℕ) → Val
slice_of s = slice_val s.ref_ptr (length s.now)

abbrev pub SliceOwn : Lft → Bor (List ℕ) → Fml
SliceOwn κ s = (ShrSlice (named 0) κ u8).own_val s (slice_of s ∷ [])

-- a signature with one lifetime
abbrev pub lasting : List (Slot 1) → (Lfts 1 → RattleType) → Signature
lasting params R = record { lifetimes = 1; outlives = []; params = params; result = plain R }

-- ---- the struct, of the slice and two numbers

abbrev pub FieldsOwn : Lft → Reader → Fml
FieldsOwn κ d =
    owns (ShrSlice (named 0) κ u8 ∷ usize ∷ usize ∷ []) (d.log, (d.block, (d.«record», tt)))
    (slice_of d.log ∷ [], (vint w64 d.block ∷ [], (vint w64 d.«record» ∷ [], tt)))

module _ {M : Type 1} {𝓤 : Ura M} (𝓛 : Logic 𝓤) (κ : Lft) (d : Reader)
    (b-fits : d.block < 2 ^ 64) (r-fits : d.«record» < 2 ^ 64) where
  pub fields_own : ent 𝓤 (sem 𝓛 (SliceOwn κ d.log)) (sem 𝓛 (FieldsOwn κ d))
  fields_own =
      qed 𝓛 (‵ (SliceOwn κ d.log) ∷ []) ∵
      nothing ! $ owned ! usize (Is usize) (uint_Makes 𝓛 w64) d.«record» _ (refl, r-fits) $ fjoin ! $
      owned ! usize (Is usize) (uint_Makes 𝓛 w64) d.block _ (refl, b-fits) $ fjoin ! $
      move ! (1 ∷ 0 ∷ []) $ fjoin ! $ done !

  -- at a name ℓ of the lifetime κ
  pub reader_own : (ℓ : Lifetime)
      → ent 𝓤 (sem 𝓛 (SliceOwn κ d.log)) (sem 𝓛 ((B (record { mir = ℓ; lft = κ })).own_val d (T'.lowered d ∷ [])))
  reader_own ℓ =
      let α : NamedLft = record { mir = ℓ; lft = κ } in
      via 𝓤 (sem 𝓛 (FieldsOwn κ d)) fields_own
      (own_shut 𝓛 (T.the_type α) (T'.the_laws α) (d.log, (d.block, (d.«record», tt))))

-- ---- a core call: `fn g(log: &[u8], block: usize, record: usize) -> R`
module _ (R : Data) (Said : List ℕ → ℕ → ℕ → R.type.Denot → Type 0) where
  abbrev pub core : Signature
  core =
      lasting
      (SliceRefOf (0 ∷ []) tt (plain (λ κs. u8)) (λ κs. tt) ∷ plain (λ κs. usize) ∷ plain (λ κs. usize) ∷ [])
      (λ κs. R.type)

  abbrev pub core_ended : Ended
  core_ended = record { signature = core; kept = (yes, (yes, (yes, tt))) }

  abbrev stayed : Stays core_ended.signature.params core_ended.kept
  stayed = (
    stay_none_slice (0 ∷ []) tt (plain (λ _. u8)) yes,
    (stay_none (λ _. usize) yes, (stay_none (λ _. usize) yes, tt)),
  )

  abbrev pub core_clauses : {M : Type 1} (𝓤 : Ura M) → Clauses 𝓤 core_ended
  core_clauses 𝓤 κs a =
      record {
        ghost = Unit {0};
        requires = λ _. fact 𝓤 (Stands a.0.now a.1.0 a.1.1.0);
        ensures = λ _ r e. fact 𝓤 (Said a.0.now a.1.0 a.1.1.0 r);
      }

  abbrev pub Core : {M : Type 1} {𝓤 : Ura M} (𝓛 : Logic 𝓤) → Contract 𝓤
  Core {𝓤 = 𝓤} 𝓛 = triple_of 𝓛 core (closing 𝓛 core_ended (core_clauses 𝓤))

  module _ {M : Type 1} {𝓤 : Ura M} (𝓛 : Logic 𝓤) (κ : Lft) (q : Share) where
    -- at the fields of d, as the machine has them
    module _ (d : Reader) where
      abbrev pub to : (Core 𝓛).Ghost
      to = (
        (
          (κ, tt),
          (q, tt),
          tt,
          (d.log, (d.block, (d.«record», tt))),
          (slice_of d.log ∷ [], (vint w64 d.block ∷ [], (vint w64 d.«record» ∷ [], tt))),
        ),
        tt,
      )

      asked : Standing d → d.block < 2 ^ 64 → d.«record» < 2 ^ 64
          → ent 𝓤
          (⋆ 𝓛 (‵ (SliceOwn κ d.log) ∷ (‵ (flft κ q) ⊛ ‵ ftrue) ∷ [])) ((Core 𝓛).pre to)
      asked stands b-fits r-fits =
          qed 𝓛 (‵ (SliceOwn κ d.log) ∷ (‵ (flft κ q) ⊛ ‵ ftrue) ∷ []) ∵
          says ! stands $ move ! (1 ∷ 0 ∷ []) $ frame ! $ by ! (fields_own 𝓛 κ d b-fits r-fits)

      abbrev pub Says : R.type.Denot → Type 0
      Says r = Said d.log.now d.block d.«record» r

      pub said : (r : R.type.Denot)
          → ent 𝓤
          (ensured 𝓛 core_ended (core_clauses 𝓤) (κ, tt) (d.log, (d.block, (d.«record», tt))) tt r)
          (fact 𝓤 (Says r))
      said r =
          ex_e 𝓤 _ (λ ws. snd∗ 𝓤 (sem 𝓛 (lasts core_ended (κ, tt) (d.log, (d.block, (d.«record», tt))) ws))
          (fact 𝓤 (Says r)))

      -- what the struct owns, at a name ℓ of its lifetime κ, gives what the callee asks, and is kept
      module _ (ℓ : Lifetime) where
        abbrev α : NamedLft
        α = record { mir = ℓ; lft = κ }

        abbrev pub Own : Fml
        Own = (B α).own_val d (T'.lowered d ∷ [])

        pub apart : Standing d → d.block < 2 ^ 64 → d.«record» < 2 ^ 64
            → ent 𝓤 (⋆ 𝓛 (‵ Own ∷ (‵ (flft κ q) ⊛ ‵ ftrue) ∷ [])) (sep 𝓤 ((Core 𝓛).pre to) (sem 𝓛 Own))
        apart stands b-fits r-fits =
            let fs : Bor (List ℕ) × (ℕ × (ℕ × Unit {0})) = (d.log, (d.block, (d.«record», tt))) in
            qed 𝓛 (‵ Own ∷ (‵ (flft κ q) ⊛ ‵ ftrue) ∷ []) ∵
            use1 𝓛 (‵ Own ⊛ ‵ Own) ((LL.copy (T.the_type α) (T'.the_copy α) 𝓛).twice d (T'.lowered d ∷ [])) $
            split ! $
            use1 𝓛
            (given (T'.lowered d ∷ [] ≡ T'.lowered d ∷ []) (‵ (all_own (T.the_type α).parts (T'.the_laws α) fs)))
            (own_open 𝓛 (T.the_type α) (T'.the_laws α) fs (T'.lowered d)) $ learn ! (λ _.
            use1 𝓛
            (‵ (field_own (T.the_type α).parts (T'.the_laws α) 0 d.log)
            ⊛ ‵ (rest (T.the_type α).parts (T'.the_laws α) 0 fs))
            (own_out 𝓛 (T.the_type α).parts (T'.the_laws α) 0 fs) $ split ! $
            -- [what log owns; what the numbers own; what the struct owns; the token]
            move ! (1 ∷ []) $ drop ! $ move ! (0 ∷ 2 ∷ []) $
            use2 𝓛 (raw ((Core 𝓛).pre to)) (asked stands b-fits r-fits) $ frame ! $ done !)

      -- ---- such a call proved by a walk of its MIR

      abbrev pub Enters : SProp 𝓤
      Enters =
          on_entry 𝓛 core (κ, tt) (q, tt) (d.log, (d.block, (d.«record», tt)))
          (slice_of d.log ∷ [], (vint w64 d.block ∷ [], (vint w64 d.«record» ∷ [], tt)))

      abbrev pub machine : List Val
      machine = slice_of d.log ∷ vint w64 d.block ∷ vint w64 d.«record» ∷ []

      abbrev pub Post : Val → SProp 𝓤
      Post = (walk_of 𝓛 core_ended stayed (core_clauses 𝓤)).post to

      pub exits : d.block < 2 ^ 64 → d.«record» < 2 ^ 64 → (r : R.type.Denot) (v : Val) → Says r
          → ent 𝓤
          (⋆ 𝓛 (‵ (R.type.own_val r (v ∷ [])) ∷ ‵ (flft κ q) ∷ ‵ (SliceOwn κ d.log) ∷ [])) (Post v)
      exits b-fits r-fits r v e =
          qed 𝓛 (‵ (R.type.own_val r (v ∷ [])) ∷ ‵ (flft κ q) ∷ ‵ (SliceOwn κ d.log) ∷ []) ∵
          suffices ! _
          (ends_at 𝓛 core_ended stayed (core_clauses 𝓤) to v r (tt, (tt, (tt, tt))) (tt, (tt, (tt, tt)))) $
          says ! e $ nothing ! $ move ! (2 ∷ 0 ∷ []) $ join ! $ frame ! $ move ! (1 ∷ []) $
          use1 𝓛 (‵ (FieldsOwn κ d)) (fields_own 𝓛 κ d b-fits r-fits) $ frame ! $ done !

  module _ {M : Type 1} {𝓤 : Ura M} (𝓛 : Logic 𝓤) where
    open 𝓛 use {H}

    pub by_walk : (𝓣 : Tables 𝓤 H) (f : Fn)
        → ((κ : Lft) (q : Share) (d : Reader) → d.block < 2 ^ 64 → d.«record» < 2 ^ 64
        → Is (ShrSlice (named 0) κ u8) d.log (slice_of d.log ∷ []) → Standing d
        → ent 𝓤 (Enters 𝓛 κ q d) (WpFn 𝓤 H 𝓣.C 𝓣.Λ f (machine 𝓛 κ q d) (Post 𝓛 κ q d)))
        → Meets 𝓛 core (WpFn 𝓤 H 𝓣.C 𝓣.Λ f) (closing 𝓛 core_ended (core_clauses 𝓤))
    by_walk 𝓣 f walk =
        walk_Meets 𝓛 core_ended stayed (
          Goes-none_slice 𝓛 1 (0 ∷ []) tt (plain (λ _. u8)) yes,
          (
            Goes-none 𝓛 1 (λ _. usize) yes (λ κs x f. refl),
            (Goes-none 𝓛 1 (λ _. usize) yes (λ κs x f. refl), tt),
          ),
        )
        (core_clauses 𝓤) (WpFn 𝓤 H 𝓣.C 𝓣.Λ f) (WpFn-mono 𝓤 H 𝓛.laws 𝓣 f)
        (walked 𝓛 core_ended stayed (core_clauses 𝓤) (WpFn 𝓤 H 𝓣.C 𝓣.Λ f)
        (λ κs. (shr_slice_vals, (uint_vals w64, (uint_vals w64, tt))))
        (λ κs. (shr_slice_Tells (named 0) κs.0 u8, (uint_Tells w64, (uint_Tells w64, tt))))
        (λ κs qs bounds a g are. needs 𝓤 _ _ (walk κs.0 qs.0
        (record { log = a.0; block = a.1.0; «record» = a.1.1.0 }) are.1.0.1 are.1.1.0.1 are.0)))

-- ---- the struct at two other numbers

module _ {M : Type 1} {𝓤 : Ura M} (𝓛 : Logic 𝓤) (α : NamedLft) (d : Reader) where
  abbrev pub at_place : ℕ → ℕ → Reader
  at_place b r = record { log = d.log; block = b; «record» = r }

  pub put_both : (b r : ℕ) → b < 2 ^ 64 → r < 2 ^ 64
      → ent 𝓤 (sem 𝓛 ((B α).own_val d (T'.lowered d ∷ [])))
      (sem 𝓛 ((B α).own_val (at_place b r) (T'.lowered (at_place b r) ∷ [])))
  put_both b r b-fits r-fits =
      qed 𝓛 (‵ ((B α).own_val d (T'.lowered d ∷ [])) ∷ []) ∵
      owned ! usize (Is usize) (uint_Makes 𝓛 w64) b _ (refl, b-fits) $ move ! (1 ∷ 0 ∷ []) $
      use2 𝓛 (‵ ((B α).own_val (at_place b d.«record») (T'.lowered (at_place b d.«record») ∷ [])))
      (own_put 𝓛 (T.the_type α) (T'.the_laws α) 1 (d.log, (d.block, (d.«record», tt))) b (T'.lowered d)) $
      owned ! usize (Is usize) (uint_Makes 𝓛 w64) r _ (refl, r-fits) $ move ! (1 ∷ 0 ∷ []) $
      by ! (own_put 𝓛 (T.the_type α) (T'.the_laws α) 2 (d.log, (b, (d.«record», tt))) r
      (T'.lowered (at_place b d.«record»)))

-- ---- what the core calls return

-- `found_at`
abbrev pub Finds : List ℕ → ℕ → ℕ → Option Request → Type 0
Finds log b r f = f ≡ (taken_at log b r).found

-- `take_at`
abbrev pub taken_data : Data
taken_data = struct D.the_type D'.the_laws D'.the_plain (λ x. tt) (λ x f. refl)

abbrev pub Takes : List ℕ → ℕ → ℕ → Taken → Type 0
Takes log b r t = t ≡ taken_at log b r

pub block_fits : (d : Taken) (vs : List Val) → Is D.the_row d vs → d.block < 2 ^ 64
block_fits d vs is = (LL.owed D.the_type D'.the_laws d vs is).1.0.1

pub record_fits : (d : Taken) (vs : List Val) → Is D.the_row d vs → d.«record» < 2 ^ 64
record_fits d vs is = (LL.owed D.the_type D'.the_laws d vs is).1.1.0.1
