-- The queue in its array. In order: its tasks; a task taken out; where the task stands that is served. Assumes nothing.
use Rattle.std.specs.Prelude.{ℕ, ◌+◌, ◌-◌, ◌≤◌, ◌≡◌, true, false, cond, List, [], ◌∷◌, ◌++◌, take, drop, ltb}
use Rattle.lists.specs.Lists.{at, Below}
use Rattle.rule.specs.Setups.{is_priority}
use Rattle.rule.specs.Tick.{best}
use Rattle.rule.specs.declared.Setup.{Setup}

-- n tasks in a ring, the first n places of an array, from place h on
abbrev pub ring : ℕ → ℕ → List ℕ → List ℕ
ring h n q = drop h (take n q) ++ take h (take n q)

-- Under round robin the queue starts at the head, so that a turn moves no task. Under priority it starts at place 0,
-- and the head is the place of the task that is served.
unfoldable pub queue_at : Setup → ℕ → ℕ → List ℕ → List ℕ
queue_at p head n q = cond (is_priority p) (take n q) (ring head n q)

-- every entry is the number of a task
abbrev pub Tasks : List ℕ → Type 0
Tasks q = Below 32 q

-- the task at a place leaves, and those behind it move up
abbrev pub taken_out : ℕ → List ℕ → List ℕ
taken_out place q = take place q ++ (drop (place + 1) q ++ 0 ∷ [])

-- Among the first n places, that of the task that goes first; place 0 where n is 0.
pub record Best (prio : List ℕ) (n : ℕ) (q : List ℕ) (place : ℕ) : Type 0 where
  pub inside : place ≤ n - 1
  pub first : at q place ≡ best prio (at q 0) (drop 1 (take n q))

-- The head of n tasks after it was at h: under round robin it stays, or goes back to 0 where it is past the end; under
-- priority it is the best place.
pub record Heads (p : Setup) (h n : ℕ) (q : List ℕ) (r : ℕ) : Type 0 where
  pub robin : is_priority p ≡ false → r ≡ cond (ltb h n) h 0
  pub priority : is_priority p ≡ true → Best p.priority n q r
