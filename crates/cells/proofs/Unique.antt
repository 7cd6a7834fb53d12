-- What is put at the start of a buffer fixes the answer and every byte of the buffer. Assumes nothing.
use Prim.Native.Nat.{ℕ}
use mathlib.Core.Path.{◌≡◌, sym, ◌∙◌}
use mathlib.Core.List.{List}
use Rattle.cells.specs.Writes.{WroteUpTo}
use Rattle.cells.proofs.Writing.{wrote_after}

module _ {most : ℕ} {before : List ℕ} {at : ℕ} {s : List ℕ} where
  pub place_unique : {b c : List ℕ} {r q : ℕ} → WroteUpTo most before b at s r → WroteUpTo most before c at s q → r ≡ q
  place_unique x y = x.wrote.place ∙ sym y.wrote.place

  pub buffer_unique : {b c : List ℕ} {r q : ℕ} → WroteUpTo most before b at s r → WroteUpTo most before c at s q → b ≡ c
  buffer_unique x y = wrote_after x.wrote ∙ sym (wrote_after y.wrote)
