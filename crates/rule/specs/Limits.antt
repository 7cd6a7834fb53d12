-- Setups and calls at both sides of each limit, and in each order of two refusals, as one list of cases: a changed
-- number, comparison or order changes a case. In order: setups, requests and advances, what a refusal leaves. Assumes
-- nothing.
use Rattle.std.specs.Prelude.{ℕ, ◌-◌, List, [], ◌∷◌, ◌++◌, length, replicate}
use Rattle.lists.specs.Lists.{at}
use Rattle.rule.specs.Setups.{asked, setup_refusal_lem, plain, or_plain}
use Rattle.rule.specs.State.{State, fresh}
use Rattle.rule.specs.Tick.{rest}
use Rattle.rule.specs.Calls.{Call, request, advance, drain, refusal, call, calls}
use Rattle.rule.specs.Cases.{number, Case, robin}
use Rattle.rule.specs.declared.Setup.{Setup}

-- ---- setups

-- 32 bytes, of which only byte i is not 0
abbrev bytes : ℕ → List ℕ
bytes i = replicate i 0 ++ 255 ∷ replicate (31 - i) 0

abbrev none : List ℕ
none = replicate 32 0

abbrev setup : ℕ → ℕ → ℕ → List ℕ → ℕ → Case
setup policy count slice priority n =
    record { found = number (setup_refusal_lem (asked policy count slice priority)); said = number n }

abbrev setups : List Case
setups =
    setup 0 1 0 none 1 ∷ setup 1 1 0 none 0 ∷ setup 2 1 1 none 0 ∷ setup 3 1 1 none 1
    ∷ setup 1 0 0 none 2 ∷ setup 1 32 0 none 0 ∷ setup 1 33 0 none 2
    ∷ setup 2 0 1 none 2 ∷ setup 2 32 1 none 0 ∷ setup 2 33 1 none 2
    ∷ setup 1 1 1 none 3 ∷ setup 2 1 0 none 3 ∷ setup 2 1 65_535 none 0 ∷ setup 2 1 65_536 none 3
    ∷ setup 1 2 0 (bytes 1) 0 ∷ setup 1 2 0 (bytes 2) 4 ∷ setup 1 2 0 (bytes 31) 4
    ∷ setup 1 32 0 (bytes 31) 0 ∷ setup 1 31 0 (bytes 31) 4
    ∷ setup 2 1 1 (bytes 0) 4 ∷ setup 2 32 1 (bytes 31) 4
    ∷ setup 1 1 0 (replicate 31 0) 4 ∷ setup 1 1 0 (replicate 33 0) 4 ∷ setup 2 1 1 [] 4
    -- 1 before 2 before 3 before 4
    ∷ setup 0 0 0 none 1 ∷ setup 1 0 1 none 2 ∷ setup 1 33 0 (bytes 31) 2 ∷ setup 2 1 0 (bytes 0) 3 ∷ setup 3 1 1 [] 1
    ∷ []

-- ---- requests and advances

-- a run on which nothing was asked, with the clock at t
abbrev pub idle_at : ℕ → State
idle_at t = rest (fresh (robin 2 1)) t

abbrev answers : State → Call → ℕ → Case
answers s c n = record { found = number (refusal s c); said = number n }

-- task 0 is open until 2
abbrev two_ticks : State
two_ticks = calls (fresh (robin 2 1)) (request 0 0 2 ∷ [])

-- task 0 was given the first two ticks
abbrev busy_two : State
busy_two = call two_ticks (advance 2)

abbrev timed : List Case
timed =
    answers (idle_at 4_000_000_000) (request 4_000_000_000 0 1) 0
    ∷ answers (idle_at 4_000_000_000) (request 4_000_000_001 0 1) 10
    ∷ answers (idle_at 4_000_000_000) (advance 4_000_000_000) 0
    ∷ answers (idle_at 4_000_000_000) (advance 4_000_000_001) 10
    ∷ answers (idle_at 5) (request 4 0 1) 11 ∷ answers (idle_at 5) (request 5 0 1) 0
    ∷ answers (idle_at 5) (advance 4) 11 ∷ answers (idle_at 5) (advance 5) 0
    ∷ answers busy_two (request 1 0 1) 11 ∷ answers busy_two (advance 1) 11
    ∷ answers (idle_at 0) (request 0 1 1) 0 ∷ answers (idle_at 0) (request 0 2 1) 12
    ∷ answers (idle_at 0) (request 0 0 0) 13 ∷ answers (idle_at 0) (request 0 0 1) 0
    ∷ answers (idle_at 0) (request 0 0 1_000_000) 0 ∷ answers (idle_at 0) (request 0 0 1_000_001) 13
    ∷ answers two_ticks (request 0 0 1) 14 ∷ answers two_ticks (request 1 0 1) 14 ∷ answers two_ticks (request 2 0 1) 0
    -- 10 before 11 before 12 before 13 before 14
    ∷ answers (idle_at 4_032_000_000) (advance 4_032_000_000) 10
    ∷ answers (idle_at 4_032_000_000) (advance 4_000_000_001) 10
    ∷ answers (idle_at 4_032_000_000) (advance 4_000_000_000) 11
    ∷ answers (idle_at 4_032_000_000) (request 4_000_000_001 0 1) 10
    ∷ answers (idle_at 4_032_000_000) (request 4_000_000_000 0 1) 11 ∷ answers (idle_at 5) (request 4 2 1) 11
    ∷ answers (idle_at 5) (request 4 0 0) 11 ∷ answers (idle_at 5) (request 5 2 0) 12
    ∷ answers two_ticks (request 1 0 0) 13 ∷ answers two_ticks (request 1 0 1_000_001) 13
    ∷ answers (idle_at 4_032_000_000) drain 0
    ∷ []

-- ---- what a refusal leaves, and what an accepted call does not change

abbrev clocked : State → Call → ℕ → Case
clocked s c t = record { found = number (call s c).clock; said = number t }

-- task 0 had one tick from 2 to 3, and else nothing was open until 10
abbrev one_then_idle : Setup → State
one_then_idle p = calls (fresh p) (request 2 0 1 ∷ advance 10 ∷ [])

abbrev leaves : ℕ → ℕ → Case
leaves n e = record { found = number n; said = number e }

abbrev left : List Case
left =
    leaves (one_then_idle (robin 2 1)).used 0 ∷ leaves (at (one_then_idle (robin 2 1)).given 0) 1
    ∷ leaves (at (one_then_idle (robin 2 1)).done 0) 3 ∷ leaves (one_then_idle (robin 2 1)).idle 9
    ∷ leaves (call (calls (fresh plain) (request 0 0 5 ∷ [])) (advance 2)).used 0
    ∷ leaves (setup_refusal_lem plain) 0 ∷ leaves plain.count 1
    ∷ leaves (or_plain (robin 2 1)).count 2 ∷ leaves (or_plain (robin 2 0)).count 1
    -- one entry for each of the 32 tasks
    ∷ leaves (length (fresh plain).owed) 32 ∷ leaves (length (fresh plain).given) 32
    ∷ leaves (length (fresh plain).done) 32
    ∷ clocked two_ticks (request 1 0 1) 0 ∷ clocked two_ticks (request 2 0 1) 2
    ∷ clocked two_ticks (advance 4_000_000_001) 0 ∷ clocked two_ticks drain 2
    ∷ clocked (idle_at 4_032_000_000) drain 4_032_000_000
    ∷ []

abbrev pub limits : List Case
limits = setups ++ timed ++ left
