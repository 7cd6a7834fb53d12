-- Demand 3's count: from the accepted requests and the clock alone, with no word of the rule. In order: sums over
-- requests, the backlog, the accepted requests of a sequence of calls, what demand 3 says. Assumes nothing.
use Rattle.std.specs.Prelude.{ℕ, zero, suc, ◌+◌, ◌-◌, ◌≡◌, cond, List, [], ◌∷◌, ◌++◌, eqb}
use Rattle.lists.specs.Lists.{at, total}
use Rattle.rule.specs.State.{State}
use Rattle.rule.specs.Calls.{Call, request, advance, drain, refusal, call}

-- an accepted request
pub record Ask : Type 0 where
  pub time : ℕ
  pub task : ℕ
  pub amount : ℕ

-- ---- sums over requests

-- the numbers that a request has
abbrev pub time_of : Ask → ℕ
time_of q = q.time

abbrev pub task_of : Ask → ℕ
task_of q = q.task

abbrev pub amount_of : Ask → ℕ
amount_of q = q.amount

-- of the numbers f, over those requests whose number `by` is n
unfoldable pub sum_by : (Ask → ℕ) → (Ask → ℕ) → List Ask → ℕ → ℕ
sum_by by f [] n = 0
sum_by by f (q ∷ l) n = cond (eqb (by q) n) (f q) 0 + sum_by by f l n

-- over those made at time t
abbrev pub sum_at : (Ask → ℕ) → List Ask → ℕ → ℕ
sum_at f l t = sum_by time_of f l t

-- over those of task k
abbrev pub sum_of : (Ask → ℕ) → List Ask → ℕ → ℕ
sum_of f l k = sum_by task_of f l k

-- ---- the backlog

-- "it is built from the requests": that with which the tick from t to t + 1 begins is what the tick before left of
-- it, and the amounts added at t
unfoldable pub backlog : List Ask → ℕ → ℕ
backlog l zero = sum_at amount_of l zero
backlog l (suc t) = backlog l t - 1 + sum_at amount_of l (suc t)

-- how many of the ticks up to t began with none
unfoldable pub empty_ticks : List Ask → ℕ → ℕ
empty_ticks l zero = 0
empty_ticks l (suc t) = empty_ticks l t + cond (eqb (backlog l t) 0) 1 0

-- ---- the accepted requests of a sequence of calls

-- what an accepted call on a state asks
unfoldable pub asks : State → Call → List Ask
asks s (request t k a) = record { time = t; task = k; amount = a } ∷ []
asks s (advance t) = []
asks s drain = []

unfoldable pub accepted : State → List Call → List Ask
accepted s [] = []
accepted s (c ∷ cs) = cond (eqb (refusal s c) 0) (asks s c) [] ++ accepted (call s c) cs

-- ---- what demand 3 says of a state whose accepted requests these are

-- "Invented given or idle counts break demands 2 and 3. A constant backlog breaks 3".
pub record Accounted (l : List Ask) (s : State) : Type 0 where
  pub owed : total s.owed ≡ backlog l s.clock
  pub idle : s.idle ≡ empty_ticks l s.clock
  pub each : (k : ℕ) → sum_of amount_of l k ≡ at s.given k + at s.owed k
