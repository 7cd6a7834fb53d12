-- Words for numbers and lists of numbers that the definitions above use. They name no task and no policy.
-- Assumes nothing.
use Rattle.std.specs.Prelude.{ℕ, ◌+◌, ◌<◌, Bool, true, cond, ◌&&◌, List, [], ◌∷◌, get_or, eqb, leb}

-- n is from low to high
abbrev pub within : ℕ → ℕ → ℕ → Bool
within low high n = leb low n && leb n high

-- entry i of a list, 0 past its end
abbrev pub at : List ℕ → ℕ → ℕ
at l i = get_or l i 0

-- every entry is below m
abbrev pub Below : ℕ → List ℕ → Type 0
Below m l = (i : ℕ) → at l i < m

-- the sum of a list
unfoldable pub total : List ℕ → ℕ
total [] = 0
total (x ∷ xs) = x + total xs

-- 1 where the two are one number, else 0
unfoldable pub same : ℕ → ℕ → ℕ
same k x = cond (eqb k x) 1 0

-- how often k stands in a list
unfoldable pub times : ℕ → List ℕ → ℕ
times k [] = 0
times k (x ∷ xs) = same k x + times k xs

-- a list without k
unfoldable pub without : ℕ → List ℕ → List ℕ
without k [] = []
without k (x ∷ xs) = cond (eqb k x) (without k xs) (x ∷ without k xs)

-- every entry is 0
unfoldable pub zeros : List ℕ → Bool
zeros [] = true
zeros (x ∷ xs) = eqb x 0 && zeros xs
