-- Document 01, "The desk's log form": the reader, its opening and its steps. Assumes nothing.
use Rattle.std.specs.Prelude.{ℕ, zero, suc, ◌-◌, ◌≡◌, cond, List, [], ◌∷◌, length, leb, Option, Some, None, Result}
use Rattle.std.specs.Prelude.{Ok, Err}
use Rattle.std.specs.Borrow.{Bor}
use Rattle.rule.specs.Calls.{Call, request, advance, drain}
use Rattle.rule.specs.declared.Setup.{Setup}
use Rattle.judging.specs.Log.{told, judged}
use Rattle.rule.specs.declared.Request.{Request}
use Rattle.judging.specs.declared.LogRefusal.{LogRefusal}
use Rattle.logs.specs.Records.{asked_times}
use Rattle.places.specs.Places.{row_number, taken_at, setup_at_lem, Stands, first_block}
use Rattle.places.specs.declared.Taken.{Taken}
use Rattle.reader.specs.declared.Opened.{Opened}
use Rattle.reader.specs.declared.Reader.{Reader}

-- ---- the reader

-- the reader that an opening gives, on the caller's own bytes
abbrev pub reader_on : Bor (List ℕ) → Reader
reader_on log = record { log = log; block = first_block (judged log.now); «record» = 0 }

pub record OpenedOn (log : Bor (List ℕ)) (o : Opened) : Type 0 where
  pub verdict : told o.verdict ≡ judged log.now
  pub reader : o.reader ≡ reader_on log

abbrev pub Standing : Reader → Type 0
Standing r = Stands r.log.now r.block r.«record»

abbrev pub taken_by : Reader → Taken
taken_by r = taken_at r.log.now r.block r.«record»

abbrev pub setup_by : Reader → Setup
setup_by r = setup_at_lem r.log.now r.block

-- the reader on the same bytes, at the place after
abbrev pub reader_past : Reader → Reader
reader_past r = record { log = r.log; block = (taken_by r).block; «record» = (taken_by r).«record» }

-- what a step finds, and the reader at exit
pub record NextIs (r : Reader) (f : Option Request) (exit : Reader) : Type 0 where
  pub found : f ≡ (taken_by r).found
  pub after : exit ≡ reader_past r

-- how many records a reader has before it; block 0 has none
abbrev pub rows_left : Reader → ℕ
rows_left r = cond (leb 1 r.block) (length (asked_times r.log.now) - row_number r.block r.«record») 0

-- the first record of a log; none of a refused one
abbrev pub first_found : List ℕ → Option Request
first_found log = (taken_at log (first_block (judged log)) 0).found

-- what an answer finds; none where it refuses
abbrev pub found_in : Result (Option Request) LogRefusal → Option Request
found_in (Ok f) = f
found_in (Err e) = None

pub record FirstOf (log : List ℕ) (r : Result (Option Request) LogRefusal) : Type 0 where
  pub verdict : told r ≡ judged log
  pub found : found_in r ≡ first_found log

-- ---- reading on

-- what n steps find
unfoldable pub nexts : Reader → ℕ → List (Option Request)
nexts r zero = []
nexts r (suc n) = (taken_by r).found ∷ nexts (reader_past r) n

-- rows as a reader finds them
unfoldable pub found_rows : List Call → List (Option Request)
found_rows [] = []
found_rows (request time task amount ∷ cs) =
    Some (record { time = time; task = task; amount = amount }) ∷ found_rows cs
found_rows (advance time ∷ cs) = found_rows cs
found_rows (drain ∷ cs) = found_rows cs
