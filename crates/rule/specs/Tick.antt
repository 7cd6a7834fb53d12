-- Document 01, "The tick-by-tick rule". In order: who is served, the turn, the service, the tick. Assumes nothing.
use Rattle.std.specs.Prelude.{ℕ, zero, suc, ◌+◌, ◌-◌, Bool, false, cond, List, [], ◌∷◌, ◌++◌, set, ltb, eqb}
use Rattle.lists.specs.Lists.{at, without}
use Rattle.rule.specs.Setups.{is_priority}
use Rattle.rule.specs.State.{State}
use Rattle.rule.specs.declared.Setup.{Setup}

-- ---- who is served

-- "the greatest priority number ..; among equals, .. the smaller task number": of two tasks, the one that goes first
unfoldable pub before : List ℕ → ℕ → ℕ → ℕ
before prio a b =
    cond (ltb (at prio a) (at prio b)) b
    (cond (ltb (at prio b) (at prio a)) a
    (cond (ltb b a) b a))

-- of b and a list, the one that goes first
unfoldable pub best : List ℕ → ℕ → List ℕ → ℕ
best prio b [] = b
best prio b (k ∷ ks) = best prio (before prio b k) ks

-- "Priority. The tick goes to the open task with the greatest priority number .. Round robin. .. the head gets the
-- tick". Where no task is open it is not asked.
unfoldable pub chosen : Setup → List ℕ → ℕ
chosen p [] = 0
chosen p (h ∷ t) = cond (is_priority p) (best p.priority h t) h

-- ---- the turn

-- the used count equals the slice length; under priority there is none
unfoldable pub overdue : Setup → ℕ → Bool
overdue p used = cond (is_priority p) false (eqb used p.slice)

-- the head moves to the back
unfoldable pub head_back : List ℕ → List ℕ
head_back [] = []
head_back (h ∷ t) = t ++ h ∷ []

-- "At the start of a tick, if the used count equals the slice length, the head moves to the back and the count
-- becomes 0."
unfoldable pub turn : State → State
turn s =
    record {
      setup = s.setup;
      clock = s.clock;
      idle = s.idle;
      used = cond (overdue s.setup s.used) 0 s.used;
      queue = cond (overdue s.setup s.used) (head_back s.queue) s.queue;
      owed = s.owed;
      given = s.given;
      done = s.done;
    }

-- ---- the service, said for n ticks in a row so that a jump is the same definition; a tick has n = 1

-- "the count grows by one"; under priority there is none
unfoldable pub used_more_lem : Setup → ℕ → ℕ → ℕ
used_more_lem p used n = cond (is_priority p) 0 (used + n)

-- n are the last ticks owed to task i
abbrev pub last : State → ℕ → ℕ → Bool
last s i n = eqb (at s.owed i) n

-- "A task whose last owed tick runs from t to t + 1 is done at t + 1. It is then no longer open; in round robin it
-- leaves the queue and the used count becomes 0."
unfoldable pub give : State → ℕ → ℕ → State
give s i n =
    record {
      setup = s.setup;
      clock = s.clock + n;
      idle = s.idle;
      used = cond (last s i n) 0 (used_more_lem s.setup s.used n);
      queue = cond (last s i n) (without i s.queue) s.queue;
      owed = set s.owed i (at s.owed i - n);
      given = set s.given i (at s.given i + n);
      done = cond (last s i n) (set s.done i (s.clock + n)) s.done;
    }

-- ---- the tick

-- "While nothing is open a tick is idle."
unfoldable pub rest : State → ℕ → State
rest s n =
    record {
      setup = s.setup;
      clock = s.clock + n;
      idle = s.idle + n;
      used = s.used;
      queue = s.queue;
      owed = s.owed;
      given = s.given;
      done = s.done;
    }

-- "Then the head gets the tick and the count grows by one."
unfoldable pub serve : State → State
serve s = give s (chosen s.setup s.queue) 1

-- with this queue: an idle tick, or the turn and then the service
unfoldable pub tick_on : State → List ℕ → State
tick_on s [] = rest s 1
tick_on s (h ∷ t) = serve (turn s)

unfoldable pub tick : State → State
tick s = tick_on s s.queue

-- n ticks in a row
unfoldable pub ticks : ℕ → State → State
ticks zero s = s
ticks (suc n) s = ticks n (tick s)
