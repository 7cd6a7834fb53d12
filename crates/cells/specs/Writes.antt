-- What a function that writes into a lent buffer promises: of every byte of the buffer, and of the place where it
-- stopped. Assumes nothing.
use Rattle.std.specs.Prelude.{ℕ, ◌+◌, ◌≤◌, ◌≡◌, List, ◌++◌, length, take, drop}

-- The text s stands at `at`, r is just past it, and all else is as before.
pub record Wrote (before after : List ℕ) (at : ℕ) (s : List ℕ) (r : ℕ) : Type 0 where
  pub same_length : length after ≡ length before
  pub place : r ≡ at + length s
  pub text : take r after ≡ take at before ++ s
  pub rest : drop r after ≡ drop r before

-- Wrote, at most so many bytes.
pub record WroteUpTo (most : ℕ) (before after : List ℕ) (at : ℕ) (s : List ℕ) (r : ℕ) : Type 0 where
  pub wrote : Wrote before after at s r
  pub short : r ≤ at + most

-- The text s stands at the start of the buffer, and r is its length, at most 65,536.
abbrev pub Puts : List ℕ → List ℕ → List ℕ → ℕ → Type 0
Puts before after s r = WroteUpTo 65_536 before after 0 s r
