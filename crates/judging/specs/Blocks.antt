-- Document 01, "The desk's log form": the length of a log, and what each of its blocks has to be. Assumes nothing.
use Rattle.std.specs.Prelude.{ℕ, zero, suc, ◌+◌, ◌*◌, ◌-◌, ◌/◌, ◌%◌, Bool, cond, ◌&&◌, ◌||◌, List, length, take, drop}
use Rattle.std.specs.Prelude.{eqb, leb}
use Rattle.std.proofs.Math.Seq.{slice}
use Rattle.lists.specs.Lists.{within, zeros}
use Rattle.words.specs.Words.{word, check}
use Rattle.rule.specs.Setups.{asked}
use Rattle.rule.specs.Table.{most_rows}
use Rattle.rule.specs.declared.Setup.{Setup}

-- "Blocks of 512 bytes, 1 to 26 of them."
abbrev pub blocks : List ℕ → ℕ
blocks log = length log / 512

-- 30, "log length not 512 times 1 to 26"
unfoldable pub length_fits : List ℕ → Bool
length_fits log = eqb (length log % 512) 0 && within 1 26 (blocks log)

-- block i, "from 0"
abbrev pub block : List ℕ → ℕ → List ℕ
block log i = take 512 (drop (512 * i) log)

-- "Bytes 508 to 511 hold the check"
unfoldable pub check_fits : List ℕ → Bool
check_fits b = eqb (word b 508) (check b)

-- "Word 0 is the block's place, from 0."
unfoldable pub place_fits : ℕ → List ℕ → Bool
place_fits i b = eqb (word b 0) i

-- "Block 0: word 1 policy, word 2 task count, word 3 slice length, bytes 16 to 47 priorities"
unfoldable pub setup_in_lem : List ℕ → Setup
setup_in_lem b = asked (word b 4) (word b 8) (word b 12) (take 32 (drop 16 b))

-- "Other blocks: word 1 the number of records"
abbrev pub count : List ℕ → ℕ
count b = word b 4

-- the records in blocks 1 to i
unfoldable pub records_to : List ℕ → ℕ → ℕ
records_to log zero = 0
records_to log (suc i) = records_to log i + count (block log (suc i))

-- the records of a block that is full
abbrev pub full_block : ℕ
full_block = 41

-- block i of n has c records, and the record blocks before it have `before`
unfoldable pub count_fits : ℕ → ℕ → ℕ → ℕ → Bool
count_fits n i before c =
    within 1 full_block c  -- "1 to 41"
    && (eqb (i + 1) n || eqb c full_block)  -- "Each but the last has 41 records."
    && leb (before + c) most_rows  -- "At most 1,024 records in all."

-- "Block 0: .. bytes 48 to 507 zero." "Other blocks: .. records of 12 bytes from byte 8 ..; unused record bytes
-- and bytes 500 to 507 zero."
abbrev pub first_unused_lem : ℕ → List ℕ → ℕ
first_unused_lem i b = cond (eqb i 0) 48 (8 + 12 * count b)

unfoldable pub unused_zero : ℕ → List ℕ → Bool
unused_zero i b = zeros (slice (first_unused_lem i b) 508 b)

-- 33, "any other breach of the layout"
unfoldable pub layout_fits : List ℕ → ℕ → Bool
layout_fits log i =
    (eqb i 0 || count_fits (blocks log) i (records_to log (i - 1)) (count (block log i))) && unused_zero i (block log i)
