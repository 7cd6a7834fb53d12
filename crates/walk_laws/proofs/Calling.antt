-- A function whose MIR calls one other: its theorem, from a law of its MIR over tables in which that call meets its
-- contract, and from a walk of its MIR. Assumes nothing.
use mathlib.Core.Path.{◌≡◌}
use seplogic.Ra.Ura.{Ura}
use mir.Syntax.{Fn}
use prog.Wp.{Calls, Loops, WpFn, Closed, Tables}
use prog.Model.{Model}
use prog.Routine.{Callee as Name, Routine, Env}
use types.Logic.{Logic}
use contract.Running.{Running, tables, tables_of}
use sound.WpLaws.{FmC, fm_of, WpFn-mono}
use denote.Triple.Clauses.{Clauses, Ended, closing}
use denote.Triple.Spec.{Meets, triple_of}
use denote.Triple.Statement.{Contract, Triple}
use denote.Triple.Table.{entered, cited}
use denote.Triple.Walked.{Stays, AllGo, Walks, walk_Meets}

module _ {M : Type 1} {𝓤 : Ura M} (𝓛 : Logic 𝓤) (𝓜 : Model 𝓤 𝓛.H) (𝓡 : Running 𝓤 𝓛.H 𝓜) (γ : Env) where
  open 𝓛 use {H}

  pub over : (c k : Contract 𝓤) (name : Name) (f : Fn)
      → Closed 𝓤 H (tables 𝓤 H 𝓜 𝓡 γ).C (tables 𝓤 H 𝓜 𝓡 γ).Λ name f
      → (g : Name) (r : Routine) → γ g ≡ r → Triple 𝓤 (𝓡.run r) k
      → ((𝓣 : Tables 𝓤 H) → Triple 𝓤 (𝓣.C g) k → Triple 𝓤 (WpFn 𝓤 H 𝓣.C 𝓣.Λ f) c)
      → Triple 𝓤 (𝓡.run (γ name)) c
  unfolding tables_of
  over c k name f unfolded g r calls met law =
      entered 𝓤 H c (tables 𝓤 H 𝓜 𝓡 γ).C (tables 𝓤 H 𝓜 𝓡 γ).Λ name f unfolded
      (law (tables_of 𝓤 H 𝓜 (tables 𝓤 H 𝓜 𝓡 γ)) (cited 𝓤 H k 𝓜 𝓡 γ g r calls met))

  module _ (ended : Ended) (stayed : Stays ended.signature.params ended.kept)
      (clauses : Clauses 𝓤 ended) (Callee : Contract 𝓤) where
    pub by_walk : AllGo 𝓛 ended.signature.lifetimes ended.signature.params ended.kept stayed
        → (name g : Name) (f : Fn)
        → ((C : Calls 𝓤 H) (Λ : Loops 𝓤 H) → FmC 𝓤 H 𝓛.laws C → Triple 𝓤 (C g) Callee
        → Walks 𝓛 ended stayed (WpFn 𝓤 H C Λ f) clauses)
        → Closed 𝓤 H (tables 𝓤 H 𝓜 𝓡 γ).C (tables 𝓤 H 𝓜 𝓡 γ).Λ name f
        → (r : Routine) → γ g ≡ r → Triple 𝓤 (𝓡.run r) Callee
        → Meets 𝓛 ended.signature (𝓡.run (γ name)) (closing 𝓛 ended clauses)
    by_walk go name g f walks unfolded r calls met =
        over (triple_of 𝓛 ended.signature (closing 𝓛 ended clauses)) Callee name f unfolded g r
        calls met (λ 𝓣 known. walk_Meets 𝓛 ended stayed go clauses (WpFn 𝓤 H 𝓣.C 𝓣.Λ f)
        (WpFn-mono 𝓤 H 𝓛.laws 𝓣 f) (walks 𝓣.C 𝓣.Λ (fm_of 𝓤 H 𝓛.laws 𝓣) known))
