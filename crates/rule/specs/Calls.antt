-- Document 01, "Calls on a run" and "Refusal numbers": what a call does, and what is refused. Assumes nothing.
use Rattle.std.specs.Prelude.{ℕ, ◌-◌, ◌≡◌, cond, not, List, [], ◌∷◌, ◌++◌, set, ltb, leb, eqb}
use Rattle.lists.specs.Lists.{total, within}
use Rattle.rule.specs.Refusal.{refuse, first}
use Rattle.rule.specs.Setups.{setup_refusal_lem}
use Rattle.rule.specs.State.{State, fresh, is_open}
use Rattle.rule.specs.Tick.{ticks}
use Rattle.rule.specs.declared.Setup.{Setup}

-- Readings change nothing, so they are no calls here: they are functions of the state (Readings).
pub data Call : Type 0 where
  request : ℕ → ℕ → ℕ → Call  -- time, task, amount
  advance : ℕ → Call  -- time
  drain : Call

-- ---- what a call does

-- "moves the clock to the time by the rule"
unfoldable pub moved : State → ℕ → State
moved s t = ticks (t - s.clock) s

-- "The clock moves by exactly the ticks owed."
unfoldable pub drained : State → State
drained s = ticks (total s.owed) s

-- "then opens the task"; "A request joins the back." "A new request does not erase the latest completion."
unfoldable pub opened : State → ℕ → ℕ → State
opened s k a =
    record {
      setup = s.setup;
      clock = s.clock;
      idle = s.idle;
      used = s.used;
      queue = s.queue ++ k ∷ [];
      owed = set s.owed k a;
      given = s.given;
      done = s.done;
    }

-- each call, where it is accepted
unfoldable pub effect : State → Call → State
effect s (request t k a) = opened (moved s t) k a
effect s (advance t) = moved s t
effect s drain = drained s

-- ---- what is refused

-- "Times in calls are at most 4,000,000,000."
abbrev pub last_time : ℕ
last_time = 4_000_000_000

-- "Amount 1 to 1,000,000."
abbrev pub most_amount : ℕ
most_amount = 1_000_000

-- "Request: 10, 11, 12, 13, 14."
unfoldable pub request_refusal : State → ℕ → ℕ → ℕ → ℕ
request_refusal s t k a =
    first
    (refuse 10 (ltb last_time t)
    ∷ refuse 11 (ltb t s.clock)
    ∷ refuse 12 (leb s.setup.count k)
    ∷ refuse 13 (not (within 1 most_amount a))
    ∷ refuse 14 (is_open (moved s t) k)
    ∷ [])

-- "Advance: 10, 11."
unfoldable pub advance_refusal : ℕ → ℕ → ℕ
advance_refusal clock t = first (refuse 10 (ltb last_time t) ∷ refuse 11 (ltb t clock) ∷ [])

-- The refusal of a call, 0 where it is accepted. "Drain .. is never refused."
unfoldable pub refusal : State → Call → ℕ
refusal s (request t k a) = request_refusal s t k a
refusal s (advance t) = advance_refusal s.clock t
refusal s drain = 0

-- ---- calls

-- "A refusal .. changes no run"; "A refused request does not keep the move of the clock."
unfoldable pub call : State → Call → State
call s c = cond (eqb (refusal s c) 0) (effect s c) s

-- the state after calls in a row, and their refusals
unfoldable pub calls : State → List Call → State
calls s [] = s
calls s (c ∷ cs) = calls (call s c) cs

unfoldable pub refusals : State → List Call → List ℕ
refusals s [] = []
refusals s (c ∷ cs) = refusal s c ∷ refusals (call s c) cs

-- "made by a setup .. and calls on it"
pub record Made (s : State) : Type 0 where
  pub from : Setup
  pub taken : setup_refusal_lem from ≡ 0
  pub sequence : List Call
  pub reached : calls (fresh from) sequence ≡ s
