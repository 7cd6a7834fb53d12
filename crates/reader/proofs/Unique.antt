-- No two outcomes satisfy a promise of the reader: an opening's verdict and reader, a step's record and the reader
-- after it. Assumes nothing.
use Prim.Native.Nat.{ℕ}
use mathlib.Core.Path.{◌≡◌, sym, ap, ◌∙◌}
use mathlib.Core.List.{List}
use denote.Ref.{Bor}
use Rattle.rule.specs.View.{Determined}
use Rattle.judging.specs.Log.{told, judged}
use Rattle.std.specs.Prelude.{Option, Result, Ok, Err}
use Rattle.rule.specs.declared.Request.{Request}
use Rattle.judging.specs.declared.LogRefusal.{LogRefusal}
use Rattle.judging.proofs.Accepted.{refused-not}
use Rattle.judging.proofs.Unique.{refusal_equal, told_determined}
use Rattle.reader.specs.Reading.{OpenedOn, NextIs, found_in, FirstOf}
use Rattle.reader.specs.declared.Reader.{Reader}

pub opened_determined : (log : Bor (List ℕ)) → Determined (OpenedOn log)
opened_determined log x y p q =
    λ i. record {
      verdict = told_determined (judged log.now) x.verdict y.verdict p.verdict q.verdict i;
      reader = (p.reader ∙ sym q.reader) i;
    }

first_equal : (x y : Result (Option Request) LogRefusal) → told x ≡ told y → found_in x ≡ found_in y → x ≡ y
first_equal (Ok f) (Ok g) e q = ap Ok q
first_equal (Ok f) (Err d) e q = refused-not (sym e)
first_equal (Err d) (Ok g) e q = refused-not e
first_equal (Err d) (Err f) e q = ap Err (refusal_equal d f e)

pub first_determined : (log : List ℕ) → Determined (FirstOf log)
first_determined log x y p q = first_equal x y (p.verdict ∙ sym q.verdict) (p.found ∙ sym q.found)

pub step_determined : (reader : Reader) → Determined (λ (r : Option Request × Reader). NextIs reader r.0 r.1)
step_determined reader x y p q = λ i. ((p.found ∙ sym q.found) i, (p.after ∙ sym q.after) i)
