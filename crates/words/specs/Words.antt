-- Document 01, "The desk's log form": little-endian words, and a block's check. Assumes nothing.
use Rattle.std.specs.Prelude.{ℕ, zero, suc, ◌+◌, ◌*◌, ◌%◌, List, [], ◌∷◌, drop}
use Rattle.lists.specs.Lists.{at, total}

-- "Numbers are little-endian.": the word in the four bytes from byte `place` on. A byte past the end counts as 0.
unfoldable pub word : List ℕ → ℕ → ℕ
word bytes place =
    at bytes place + 256 * at bytes (place + 1) + 65_536 * at bytes (place + 2) + 16_777_216 * at bytes (place + 3)

-- the first n words
unfoldable pub words : ℕ → List ℕ → List ℕ
words zero bytes = []
words (suc n) bytes = word bytes 0 ∷ words n (drop 4 bytes)

-- "the sum of the first 127 words of the block plus 1, modulo 4,294,967,296"
unfoldable pub check : List ℕ → ℕ
check block = (total (words 127 block) + 1) % 4_294_967_296
