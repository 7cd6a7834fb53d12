-- Logs at both sides of each limit: length, check, place and layout. Assumes nothing.
use Rattle.std.specs.Prelude.{ℕ, List, [], ◌∷◌, ◌++◌, take, replicate}
use Rattle.worked.specs.Made.{Case, reads, refuses, made, marked, head, body, case_a, empty, full_blocks}

-- ---- 30, "log length not 512 times 1 to 26"; "No records: block 0 alone."

abbrev pub lengths : List Case
lengths =
    refuses 30 0 [] ∷ refuses 30 0 (replicate 511 0) ∷ refuses 30 0 (head ++ 0 ∷ [])
    ∷ refuses 30 0 (head ++ take 256 body) ∷ refuses 30 0 (take 1_023 case_a)
    ∷ refuses 30 0 (replicate 13_311 0) ∷ refuses 30 0 (replicate 13_313 0) ∷ refuses 30 0 (replicate 13_824 0)
    ∷ refuses 31 0 (replicate 512 0) ∷ refuses 31 0 (replicate 13_312 0) ∷ reads head ∷ reads case_a
    ∷ []

-- ---- 31, "a block's check is wrong"; "the sum of the first 127 words of the block plus 1, modulo 4,294,967,296"

abbrev pub checks : List Case
checks =
    -- 5 is the sum without the plus 1, and 132 that with each word plus 1
    refuses 31 0 (made (0 ∷ 2 ∷ 2 ∷ 1 ∷ []) 5) ∷ refuses 31 0 (made (0 ∷ 2 ∷ 2 ∷ 1 ∷ []) 7)
    ∷ refuses 31 0 (made (0 ∷ 2 ∷ 2 ∷ 1 ∷ []) 132)
    ∷ refuses 31 1 (head ++ made (1 ∷ 2 ∷ 0 ∷ 0 ∷ 5 ∷ 2 ∷ 1 ∷ 2 ∷ []) 13)
    -- word 126 counts
    ∷ refuses 31 0 (marked head 504 1 6) ∷ refuses 33 0 (marked head 504 1 7)
    -- a sum past the greatest word
    ∷ reads (head ++ made (1 ∷ 1 ∷ 4_294_967_295 ∷ 4_294_967_295 ∷ 7 ∷ []) 8)
    ∷ refuses 31 1 (head ++ made (1 ∷ 1 ∷ 4_294_967_295 ∷ 4_294_967_295 ∷ 7 ∷ []) 9)
    -- the lowest byte first
    ∷ reads (head ++ take 508 (made (1 ∷ 1 ∷ 16_909_060 ∷ []) 0) ++ 7 ∷ 3 ∷ 2 ∷ 1 ∷ [])
    ∷ refuses 31 1 (head ++ take 508 (made (1 ∷ 1 ∷ 16_909_060 ∷ []) 0) ++ 1 ∷ 2 ∷ 3 ∷ 7 ∷ [])
    ∷ []

-- ---- 32, "word 0 is not the block's place"

abbrev pub places : List Case
places =
    refuses 32 0 (made (1 ∷ 2 ∷ 2 ∷ 1 ∷ []) 7) ∷ refuses 32 0 (made (256 ∷ 2 ∷ 2 ∷ 1 ∷ []) 262)
    ∷ refuses 32 1 (head ++ empty 0 1) ∷ refuses 32 1 (head ++ empty 2 1)
    ∷ refuses 32 2 (head ++ empty 1 41 ++ empty 1 1) ∷ reads (head ++ empty 1 41 ++ empty 2 1)
    ∷ []

-- ---- 33, "any other breach of the layout"

-- block 1 with 41 records of zeros but for a byte
abbrev full : ℕ → ℕ → List ℕ
full place check = marked (empty 1 41) place 1 check

abbrev pub layout : List Case
layout =
    -- "bytes 48 to 507 zero"
    refuses 33 0 (marked head 48 1 7) ∷ refuses 33 0 (marked head 507 1 16_777_222)
    -- "1 to 41"
    ∷ refuses 33 1 (head ++ empty 1 0) ∷ reads (head ++ empty 1 1)
    ∷ reads (head ++ empty 1 41) ∷ refuses 33 1 (head ++ empty 1 42)
    -- "Each but the last has 41 records."
    ∷ refuses 33 1 (head ++ empty 1 40 ++ empty 2 1) ∷ refuses 33 2 (head ++ empty 1 41 ++ empty 2 0)
    ∷ reads (head ++ empty 1 41 ++ empty 2 40)
    -- "unused record bytes and bytes 500 to 507 zero"
    ∷ reads (head ++ marked body 31 1 16_777_230) ∷ refuses 33 1 (head ++ marked body 32 1 15)
    ∷ refuses 33 1 (head ++ marked body 499 1 16_777_230)
    ∷ refuses 33 1 (head ++ marked body 500 1 15) ∷ refuses 33 1 (head ++ marked body 507 1 16_777_230)
    ∷ reads (head ++ full 8 44) ∷ reads (head ++ full 499 16_777_259)
    ∷ refuses 33 1 (head ++ full 500 44) ∷ refuses 33 1 (head ++ full 507 16_777_259)
    ∷ []

-- "At most 1,024 records in all."
abbrev pub records : List Case
records =
    reads (head ++ full_blocks 1 24 ++ empty 25 40) ∷ refuses 33 25 (head ++ full_blocks 1 24 ++ empty 25 41)
    ∷ []
