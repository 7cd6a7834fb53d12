-- What a case is, and blocks made from words: case A of document 01, and others. Assumes nothing.
use Rattle.std.specs.Prelude.{ℕ, zero, suc, ◌+◌, ◌*◌, ◌-◌, ◌/◌, ◌%◌, List, [], ◌∷◌, ◌++◌, length, take, set}
use Rattle.std.specs.Prelude.{replicate, Option}
use Rattle.rule.specs.declared.Setup.{Setup}
use Rattle.judging.specs.Log.{Verdict, accepted, refused, judged}
use Rattle.rule.specs.declared.Request.{Request}
use Rattle.places.specs.declared.Taken.{Taken}

pub data Said : Type 0 where
  number : ℕ → Said
  bytes : List ℕ → Said
  verdict : Verdict → Said
  setup : Setup → Said
  row : Option Request → Said
  steps : List (Option Request) → Said
  taken : Taken → Said

-- what the definitions give, beside what is said of it
pub record Case : Type 0 where
  pub found : Said
  pub said : Said

abbrev pub reads : List ℕ → Case
reads log = record { found = verdict (judged log); said = verdict accepted }

abbrev pub refuses : ℕ → ℕ → List ℕ → Case
refuses n place log = record { found = verdict (judged log); said = verdict (refused n place) }

-- ---- blocks

abbrev pub little : ℕ → List ℕ
little w = w % 256 ∷ w / 256 % 256 ∷ w / 65_536 % 256 ∷ w / 16_777_216 ∷ []

abbrev pub as_bytes : List ℕ → List ℕ
as_bytes [] = []
as_bytes (w ∷ ws) = little w ++ as_bytes ws

-- a block that begins with these words and ends with this check; the bytes between are 0
abbrev pub made : List ℕ → ℕ → List ℕ
made ws check = as_bytes ws ++ replicate (508 - 4 * length ws) 0 ++ little check

-- a block with another byte at a place, and another check
abbrev pub marked : List ℕ → ℕ → ℕ → ℕ → List ℕ
marked b place byte check = take 508 (set b place byte) ++ little check

-- "Case A .., as a log of two blocks"
abbrev pub head : List ℕ
head = made (0 ∷ 2 ∷ 2 ∷ 1 ∷ []) 6

abbrev pub body : List ℕ
body = made (1 ∷ 2 ∷ 0 ∷ 0 ∷ 5 ∷ 2 ∷ 1 ∷ 2 ∷ []) 14

abbrev pub case_a : List ℕ
case_a = head ++ body

-- the second block with a wrong check
abbrev pub wrong : List ℕ
wrong = set body 508 0

-- record block i with n records of zeros
abbrev pub empty : ℕ → ℕ → List ℕ
empty i n = made (i ∷ n ∷ []) (i + n + 1)

-- n of them with 41 records each, from block i on
abbrev pub full_blocks : ℕ → ℕ → List ℕ
full_blocks i zero = []
full_blocks i (suc n) = empty i 41 ++ full_blocks (i + 1) n
