-- What a method that puts text on a page asks, and what it promises. Assumes nothing.
use Rattle.std.specs.Prelude.{ℕ, ◌+◌, ◌≤◌, ◌≡◌, List, length}
use Rattle.cells.specs.Writes.{WroteUpTo}
use Rattle.cells.specs.declared.Page.{Page}

-- So many bytes fit past the page's place.
abbrev pub Room : ℕ → Page → Type 0
Room most p = p.at + most ≤ length p.out.now

-- The text s was put on the page: in the same buffer, at its place, at most so many bytes.
pub record Put (most : ℕ) (before after : Page) (s : List ℕ) : Type 0 where
  pub same_buffer : after.out.ghost_name ≡ before.out.ghost_name
  pub wrote : WroteUpTo most before.out.now after.out.now before.at s after.at
