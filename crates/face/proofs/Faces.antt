-- The face's answers as plain data, for proofs by hand (walk_laws). Assumes nothing.
use mir.Syntax.{w32}
use mathlib.Core.Path.{refl}
use denote.Struct.Laws as LL
use Rattle.rule.specs.contracts.Run as T
use Rattle.rule.proofs.Run.TheLaws as T'
use Rattle.walk_laws.proofs.Answered.{Answered}
use Rattle.walk_laws.proofs.Data.{Data, number, struct}
use Rattle.face.specs.contracts.MoveFace as M
use Rattle.face.proofs.MoveFace.TheLaws as M'
use Rattle.face.specs.contracts.ReadFace as R
use Rattle.face.proofs.ReadFace.TheLaws as R'
use Rattle.face.specs.contracts.NextFace as N
use Rattle.face.proofs.NextFace.TheLaws as N'

abbrev pub read : Data
read = struct R.the_type R'.the_laws R'.the_plain (λ x. tt) (λ x f. refl)

abbrev pub next_done_lem_lem : Data
next_done_lem_lem = struct N.the_type N'.the_laws N'.the_plain (λ x. tt) (λ x f. refl)

abbrev pub move_parts : Answered T.the_type T'.the_laws
move_parts =
    record {
      S = number w32;
      D = M.the_row;
      ν = (M.the_type).name;
      answer = λ d. d.refusal;
      next = λ d. d.run;
      tells = LL.tells M.the_type M'.the_laws;
      answer_is = λ d is. (LL.owed M.the_type M'.the_laws d _ is).0;
      next_is_lem = λ d is. (LL.owed M.the_type M'.the_laws d _ is).1.0;
      typed = λ 𝓛 d is. ((LL.lawful M.the_type M'.the_laws 𝓛).typed d _ is).0;
    }
