-- Logs with several refusals, of which the first is given. Assumes nothing.
use Rattle.std.specs.Prelude.{List, [], ◌∷◌, ◌++◌}
use Rattle.worked.specs.Made.{Case, refuses, made, marked, head, wrong, empty}

-- "Log: 30; then block by block 31, 32, 33, and after block 0's layout its setup, 1 to 4,
-- before block 1 is looked at."
abbrev pub orders : List Case
orders =
    refuses 30 0 (wrong ++ 0 ∷ [])
    ∷ refuses 31 0 (made (1 ∷ 2 ∷ 2 ∷ 1 ∷ []) 9) ∷ refuses 31 0 (marked head 48 1 9)
    ∷ refuses 31 0 (made (0 ∷ 3 ∷ 2 ∷ 1 ∷ []) 9)
    ∷ refuses 32 0 (marked (made (1 ∷ 2 ∷ 2 ∷ 1 ∷ []) 0) 48 1 8) ∷ refuses 32 1 (head ++ empty 0 42)
    ∷ refuses 32 0 (made (1 ∷ 3 ∷ 2 ∷ 1 ∷ []) 8)
    ∷ refuses 33 0 (marked (made (0 ∷ 3 ∷ 2 ∷ 1 ∷ []) 0) 48 1 8)
    -- the setup
    ∷ refuses 1 0 (made (0 ∷ 3 ∷ 2 ∷ 1 ∷ []) 7) ∷ refuses 1 0 (made (0 ∷ 65_538 ∷ 2 ∷ 1 ∷ []) 65_542)
    ∷ refuses 2 0 (made (0 ∷ 2 ∷ 33 ∷ 1 ∷ []) 37) ∷ refuses 3 0 (made (0 ∷ 2 ∷ 2 ∷ 0 ∷ []) 5)
    ∷ refuses 4 0 (marked head 16 1 7) ∷ refuses 4 0 (marked head 47 1 16_777_222)
    ∷ refuses 1 0 (made (0 ∷ 3 ∷ 33 ∷ 1 ∷ []) 38)
    -- before block 1 is looked at
    ∷ refuses 1 0 (made (0 ∷ 3 ∷ 2 ∷ 1 ∷ []) 7 ++ wrong) ∷ refuses 33 0 (marked head 48 1 7 ++ wrong)
    -- block by block
    ∷ refuses 33 1 (head ++ empty 1 40 ++ wrong) ∷ refuses 31 2 (head ++ empty 1 41 ++ wrong)
    ∷ refuses 31 1 (head ++ wrong ++ empty 2 1) ∷ refuses 31 2 (head ++ empty 1 41 ++ wrong ++ empty 3 0)
    ∷ []
