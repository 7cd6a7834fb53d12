-- Document 01, "Runs worked by hand": the starred runs as one list, and runs of our own as another. Each case has
-- what the definitions give beside what is said of it; proofs/Computed.antt computes them all. Assumes nothing.
use Rattle.std.specs.Prelude.{ℕ, List, [], ◌∷◌, replicate}
use Rattle.rule.specs.Setups.{asked, setup_refusal_lem}
use Rattle.rule.specs.State.{fresh}
use Rattle.rule.specs.Calls.{drained, Call, request, advance, calls}
use Rattle.rule.specs.Readings.{Reading, Soonest}
use Rattle.rule.specs.Table.{Outcome, refused, finished, table_from}
use Rattle.rule.specs.declared.Setup.{Setup}

pub data Said : Type 0 where
  number : ℕ → Said  -- a refusal, a clock, a count of ticks
  reads : Reading → Said
  next : Soonest → Said
  comes : Outcome → Said
  column : List ℕ → Said

pub record Case : Type 0 where
  pub found : Said
  pub said : Said

-- ---- setups and rows

-- "Where a slice is named the policy is round robin"
abbrev pub robin : ℕ → ℕ → Setup
robin count slice = asked 2 count slice (replicate 32 0)

-- two tasks, or one, with these priorities
abbrev pub ranked : ℕ → ℕ → Setup
ranked a b = asked 1 2 0 (a ∷ b ∷ replicate 30 0)

abbrev pub single : Setup
single = asked 1 1 0 (5 ∷ replicate 31 0)

abbrev same : List Call
same = request 0 0 5 ∷ request 2 1 2 ∷ []

abbrev later : List Call
later = request 0 0 1 ∷ request 10 0 2 ∷ []

abbrev back : List Call
back = request 5 0 1 ∷ request 4 1 1 ∷ []

-- "Rows are (time, task, amount)": a fresh run, the calls, and then the drain
abbrev outcome : Setup → List Call → Said
outcome p cs = comes (table_from (setup_refusal_lem p) p cs)

abbrev pub gives : Setup → List Call → List ℕ → ℕ → Case
gives p cs done end = record { found = outcome p cs; said = comes (finished done end) }

abbrev pub refuses : Setup → List Call → ℕ → ℕ → Case
refuses p cs row n = record { found = outcome p cs; said = comes (refused n row) }

abbrev pub idles : Setup → List Call → ℕ → Case
idles p cs n = record { found = number (drained (calls (fresh p) cs)).idle; said = number n }

-- ---- "Those with a letter and star belong to the proved set."

abbrev pub starred : List Case
starred =
    gives (robin 2 1) same (7 ∷ 5 ∷ []) 7  -- A
    ∷ gives (ranked 0 1) same (7 ∷ 4 ∷ []) 7  -- B
    ∷ gives (robin 2 2) same (7 ∷ 4 ∷ []) 7  -- C
    ∷ gives (robin 2 3) same (7 ∷ 5 ∷ []) 7  -- D
    ∷ gives (ranked 9 9) (request 0 1 3 ∷ request 1 0 2 ∷ []) (5 ∷ 3 ∷ []) 5  -- E
    ∷ gives (robin 1 1) later (1 ∷ 12 ∷ []) 12  -- F
    ∷ idles (robin 1 1) later 9
    ∷ gives (robin 3 1) (request 0 0 1 ∷ request 0 1 2 ∷ request 0 2 1 ∷ []) (1 ∷ 4 ∷ 3 ∷ []) 4  -- G
    ∷ gives (robin 2 3) (request 0 0 4 ∷ request 0 1 3 ∷ []) (7 ∷ 6 ∷ []) 7  -- H
    ∷ gives (robin 2 3) (request 0 0 4 ∷ request 0 1 3 ∷ advance 2 ∷ []) (7 ∷ 6 ∷ []) 7
    ∷ refuses single (request 0 0 2 ∷ request 1 0 1 ∷ []) 2 14  -- I, both policies
    ∷ refuses (robin 1 7) (request 0 0 2 ∷ request 1 0 1 ∷ []) 2 14
    ∷ gives single (request 0 0 2 ∷ request 2 0 1 ∷ []) (2 ∷ 3 ∷ []) 3  -- J, both
    ∷ gives (robin 1 7) (request 0 0 2 ∷ request 2 0 1 ∷ []) (2 ∷ 3 ∷ []) 3
    ∷ refuses (ranked 1 2) back 2 11  -- K, both
    ∷ refuses (robin 2 7) back 2 11
    ∷ refuses single back 2 11  -- K without task 1
    ∷ refuses (robin 1 7) back 2 11
    ∷ []

-- ---- our own

abbrev pub ours : List Case
ours =
    -- the used count is 0 after a completion
    gives (robin 3 3) (request 0 0 2 ∷ request 0 1 4 ∷ request 0 2 3 ∷ []) (2 ∷ 9 ∷ 8 ∷ []) 9
    -- an advance to the clock does not turn the queue
    ∷ gives (robin 2 1) (request 0 0 5 ∷ advance 2 ∷ advance 2 ∷ request 2 1 2 ∷ []) (7 ∷ 5 ∷ []) 7
    -- the used count of a lone task begins again at each slice
    ∷ gives (robin 2 2) (request 0 0 9 ∷ request 3 1 3 ∷ []) (12 ∷ 9 ∷ []) 12
    -- a request at the end of a slice joins ahead of the task that had it
    ∷ gives (robin 3 1) (request 0 0 5 ∷ request 0 1 5 ∷ request 4 2 1 ∷ []) (10 ∷ 11 ∷ 6 ∷ []) 11
    -- a higher task waits for nobody, and the one below goes on where it was
    ∷ gives (ranked 7 3) (request 0 1 4 ∷ request 1 0 2 ∷ request 4 0 1 ∷ []) (7 ∷ 3 ∷ 5 ∷ []) 7
    -- among equals the smaller number, and not whoever came later; a higher task, and not the smaller number
    ∷ gives (ranked 9 9) (request 0 0 3 ∷ request 1 1 2 ∷ []) (3 ∷ 5 ∷ []) 5
    ∷ gives (ranked 0 1) (request 0 1 3 ∷ request 1 0 2 ∷ []) (3 ∷ 5 ∷ []) 5
    -- ticks before, between and after the rows
    ∷ idles (ranked 7 3) (request 3 1 4 ∷ request 9 0 2 ∷ []) 5
    ∷ []
