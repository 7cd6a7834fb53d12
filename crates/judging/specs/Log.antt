-- Document 01, "Refusal numbers", for a log: what its bytes are judged to be. Assumes nothing.
use Rattle.std.specs.Prelude.{ℕ, zero, suc, ◌+◌, ◌*◌, ◌-◌, ◌≡◌, cond, not, ◌||◌, List, [], ◌∷◌, Result, Ok, Err, eqb}
use Rattle.rule.specs.Refusal.{refuse, first}
use Rattle.rule.specs.Setups.{setup_refusal_lem}
use Rattle.judging.specs.Blocks.{blocks, length_fits, block, check_fits, place_fits, setup_in_lem, count, full_block}
use Rattle.judging.specs.Blocks.{count_fits, layout_fits}
use Rattle.judging.specs.Numbers.{log_number, log_block}
use Rattle.judging.specs.declared.LogRefusal.{LogRefusal}

-- "A refusal gives its number, with .. the block for 31 to 33": 0 stands for the block where none is given
pub data Verdict : Type 0 where
  accepted : Verdict
  refused : ℕ → ℕ → Verdict

-- what each case of the code's answer says
abbrev pub told : {A : Type 0} → Result A LogRefusal → Verdict
told (Ok x) = accepted
told (Err e) = refused (log_number e) (log_block e)

-- block i is refused with a number; 0 is no refusal
abbrev pub at_block : ℕ → ℕ → Verdict
at_block i number = cond (eqb number 0) accepted (refused number i)

-- the first of 31, 32 and 33 by the check, the place and the number of records of the bytes b of block i of n, where
-- the record blocks before it are full
abbrev pub head_refusal : ℕ → ℕ → List ℕ → ℕ
head_refusal n i b =
    first
    (refuse 31 (not (check_fits b))
    ∷ refuse 32 (not (place_fits i b))
    ∷ refuse 33 (not (eqb i 0 || count_fits n i (full_block * (i - 1)) (count b)))
    ∷ [])

-- "31, 32, 33, and after block 0's layout its setup, 1 to 4": the refusal of block i, 0 where there is none
unfoldable pub block_refusal_lem : List ℕ → ℕ → ℕ
block_refusal_lem log i =
    first
    (refuse 31 (not (check_fits (block log i)))
    ∷ refuse 32 (not (place_fits i (block log i)))
    ∷ refuse 33 (not (layout_fits log i))
    ∷ refuse (setup_refusal_lem (setup_in_lem (block log i))) (eqb i 0)
    ∷ [])

-- "block by block": `left` of them from block i on. The setup's refusals are those of block 0, and so have place 0.
unfoldable pub judged_from : List ℕ → ℕ → ℕ → Verdict
judged_from log i zero = accepted
judged_from log i (suc left) =
    cond (eqb (block_refusal_lem log i) 0) (judged_from log (i + 1) left) (refused (block_refusal_lem log i) i)

-- "Log: 30; then block by block"
unfoldable pub judged : List ℕ → Verdict
judged log = cond (length_fits log) (judged_from log 0 (blocks log)) (refused 30 0)

-- "made by .. an opening": the log was judged, and nothing was refused
abbrev pub Reads : List ℕ → Type 0
Reads log = judged log ≡ accepted
