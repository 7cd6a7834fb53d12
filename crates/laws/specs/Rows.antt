-- Document 01, "Tables", as facts: what columns have that are not refused, which row is refused, and what a table
-- comes to. Assumes nothing.
use Rattle.std.specs.Prelude.{ℕ, ◌+◌, ◌≤◌, ◌≡◌, List, ◌∷◌, ◌++◌, length}
use Rattle.rule.specs.Setups.{setup_refusal_lem}
use Rattle.rule.specs.State.{State, fresh}
use Rattle.rule.specs.Calls.{drained, Call, refusal, calls}
use Rattle.rule.specs.Table.{Outcome, refused, finished, completions, most_rows}
use Rattle.rule.specs.declared.Setup.{Setup}
use Rattle.laws.specs.Sequences.{AllAccepted}

-- "Table: 1 to 4, then 20, 21": none of them holds, by the columns' lengths.
pub record Fitted (p : Setup) (times tasks amounts : ℕ) : Type 0 where
  pub setup : setup_refusal_lem p ≡ 0
  pub tasks_equal : tasks ≡ times
  pub amounts_equal : amounts ≡ times
  pub few : times ≤ most_rows

-- nor 22, by the length of the result column
pub record Tabled (p : Setup) (times tasks amounts room : ℕ) : Type 0 where
  pub fitted : Fitted p times tasks amounts
  pub fits : times ≤ room

-- "the first such row": the call at place i, from 0, is refused with n, and all before it are accepted.
pub record FirstRefused (s : State) (cs : List Call) (n i : ℕ) : Type 0 where
  pub before : List Call
  pub culprit : Call
  pub after : List Call
  pub parts : cs ≡ before ++ culprit ∷ after
  pub place : i ≡ length before
  pub accepted : AllAccepted s before
  pub number : refusal (calls s before) culprit ≡ n
  pub wrong : n ≡ 0 → ⊥

-- The outcome o of rows whose table has the refusal n, in the order in which a table is judged: "1 to 4, then 20, 21,
-- 22, then rows", each refused row counted from 1.
pub data Comes (p : Setup) (cs : List Call) (n : ℕ) (o : Outcome) : Type 0 where
  before_rows : (n ≡ 0 → ⊥) → o ≡ refused n 0 → Comes p cs n o
  at_row : (m i : ℕ) → n ≡ 0 → FirstRefused (fresh p) cs m i → o ≡ refused m (1 + i) → Comes p cs n o
  to_the_end : n ≡ 0 → AllAccepted (fresh p) cs
      → o ≡ finished (completions (fresh p) cs) (drained (calls (fresh p) cs)).clock → Comes p cs n o
