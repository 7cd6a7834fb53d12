-- `words::word_at` meets its contract: the bytes that are not there count as 0. Assumes nothing.
use Rattle.std.proofs.Common.{ℕ, List, length, ◌≡◌, sym, arith}
use Rattle.std.specs.List.{slice_range}
use Rattle.words.specs.Words.{word}
use Rattle.words.proofs.Words.{word_rest, word_three, word_two, word_one, word_none}
use Rattle.words.proofs.word_at.Goals as goal

-- the word at the start of the rest is the one at the place
at_rest : (s : List ℕ) (i : ℕ) {rest : List ℕ} {n : ℕ} → rest ≡ slice_range s i (length s) → n ≡ word rest 0
    → n ≡ word s i
at_rest s i {rest} e h = omega (arith, word_rest s rest i e)

pub returns-in_default : goal.returns-in_default
returns-in_default c =
    sym (word_none _ _ (omega (arith, c.in_default.ensures.lookup)))

pub returns-in-empty : goal.returns-in-empty
returns-in-empty c =
    at_rest c.args.bytes.now c.args.place c.in-Some.ensures.lookup.0.2 (sym (word_none _ 0 (omega arith)))

pub returns-in-len1 : goal.returns-in-len1
returns-in-len1 c =
    at_rest c.args.bytes.now c.args.place c.in-Some.ensures.lookup.0.2
    (omega (arith, word_one c.in-Some.rest.now 0 (omega arith)))

pub returns-in-len2 : goal.returns-in-len2
returns-in-len2 c =
    at_rest c.args.bytes.now c.args.place c.in-Some.ensures.lookup.0.2
    (omega (arith, word_two c.in-Some.rest.now 0 (omega arith)))

pub returns-in-len3 : goal.returns-in-len3
returns-in-len3 c =
    at_rest c.args.bytes.now c.args.place c.in-Some.ensures.lookup.0.2
    (omega (arith, word_three c.in-Some.rest.now 0 (omega arith)))

pub returns-in-len4-up : goal.returns-in-len4-up
unfolding word
returns-in-len4-up c =
    at_rest c.args.bytes.now c.args.place c.in-Some.ensures.lookup.0.2 (omega arith)
