-- Document 01, "The desk's log form": the places of a log, what is taken there, where reading begins. Assumes
-- nothing.
use Rattle.std.specs.Prelude.{ℕ, ◌+◌, ◌*◌, ◌-◌, ◌≤◌, ◌<◌, ◌≡◌, Bool, cond, ◌&&◌, List, length, Some, None, eqb, leb}
use Rattle.std.specs.Prelude.{ltb}
use Rattle.rule.specs.Setups.{plain}
use Rattle.rule.specs.declared.Setup.{Setup}
use Rattle.judging.specs.Blocks.{full_block}
use Rattle.judging.specs.Log.{Verdict, accepted, refused, told, judged, Reads}
use Rattle.logs.specs.Records.{setup_of_lem, asked_times, row_at}
use Rattle.places.specs.declared.Begun.{Begun}
use Rattle.places.specs.declared.Taken.{Taken}

-- ---- places: record r of block b, both counted from 0

-- "Each but the last has 41 records.": which row stands there, counted from 0
abbrev pub row_number : ℕ → ℕ → ℕ
row_number b r = full_block * (b - 1) + r

-- block 0 has no records
abbrev pub has_row : List ℕ → ℕ → ℕ → Bool
has_row log b r = leb 1 b && ltb (row_number b r) (length (asked_times log))

-- "knows its next record; after the last it says that there is none, and stays"
unfoldable pub taken_at : List ℕ → ℕ → ℕ → Taken
taken_at log b r =
    cond (has_row log b r)
    (record {
      found = Some (row_at log (row_number b r));
      block = cond (eqb (r + 1) full_block) (b + 1) b;
      «record» = cond (eqb (r + 1) full_block) 0 (r + 1);
    })
    (record { found = None; block = b; «record» = r })

-- the setup of the log; on a refused log, where a reader stays at block 0, that of `plain`
unfoldable pub setup_at_lem : List ℕ → ℕ → Setup
setup_at_lem log b = cond (leb 1 b) (setup_of_lem log) plain

-- a place that is reached from the first record of a log that reads
pub record PlaceOf (log : List ℕ) (b r : ℕ) : Type 0 where
  pub reads : Reads log
  pub few : r < full_block
  pub inside : row_number b r ≤ length (asked_times log)

-- "made by .. opening and calls on it": a refused opening leaves the reader at block 0, where it finds no record
abbrev pub Stands : List ℕ → ℕ → ℕ → Type 0
Stands log b r = 0 < b → PlaceOf log b r

-- ---- the beginning

-- where reading begins, by the log's verdict
abbrev pub first_block : Verdict → ℕ
first_block accepted = 1
first_block (refused n i) = 0

pub record Begins (log : List ℕ) (s : Begun) : Type 0 where
  pub verdict : told s.verdict ≡ judged log
  pub block : s.block ≡ first_block (judged log)
