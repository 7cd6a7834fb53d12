-- The refusals by 10 to 13, the walk, the test for 14, the join: each return is one end of a request (Requests).
use native.Mathlib.Omega.{arith}
use mathlib.Core.Path.{◌≡◌, sym}
use Rattle.std.proofs.Common.{rules}
use Rattle.requests.specs.Numbers.{call_number}
use Rattle.requests.proofs.Early.{early, early_passed}
use Rattle.legs.proofs.Legs.{kept_tasks}
use Rattle.engine.specs.Live.{state}
use Rattle.engine.proofs.Requests.{asks_early, asks_task, asks_open, asks_room, asks_sound, asks_taken}
use Rattle.engine.proofs.Live.ask.Goals as goal

pub returns-in_err-early_refusal : goal.returns-in_err-early_refusal
returns-in_err-early_refusal c =
    let r = c.args.request in
    let e : call_number c.from_residual.result ≡ early (state c.args.self.now) r.time r.task r.amount = search rules in
    let ne : call_number c.from_residual.result ≡ 0 → ⊥ = search rules in
    asks_early e ne

pub walk-requires : goal.walk-requires
walk-requires c =
    let p = early_passed _ _ _ _ _ (sym c.in_ok-early_refusal.ensures) in
    record { clock_le_time = p.later; time_le_last_clock = omega (arith, p.time) }

pub bounds-self-request : goal.bounds-self-request
bounds-self-request c = asks_task _ _ _ c.args.self.now.sound (sym c.in_ok-early_refusal.ensures)

pub returns-then-self-request-gt0 : goal.returns-then-self-request-gt0
returns-then-self-request-gt0 c =
    asks_open _ _ _ c.args.self.now.sound (sym c.in_ok-early_refusal.ensures) c.walk.new.self c.walk.ensures
    c.if-self-request-gt0.true

pub overflow_cast-request-2 : goal.overflow_cast-request-2
overflow_cast-request-2 c =
    omega (arith, asks_task _ _ _ c.args.self.now.sound (sym c.in_ok-early_refusal.ensures))

pub joined-self-requires : goal.joined-self-requires
joined-self-requires c =
    let S = c.args.self.now.sound in
    let e = sym c.in_ok-early_refusal.ensures in
    let live = c.walk.new.self in
    record {
      kept = live.kept;
      queued_bound = asks_room _ _ _ S e live c.walk.ensures c.if-self-request-gt0.false;
      tasks = kept_tasks live.kept live.sound;
      task_bound = asks_task _ _ _ S e;
    }

pub invariant_of-self : goal.invariant_of-self
invariant_of-self c =
    record {
      kept = c.joined-self.ensures.kept;
      sound =
          asks_sound _ _ _ c.args.self.now.sound (sym c.in_ok-early_refusal.ensures) c.walk.new.self c.walk.ensures
          c.if-self-request-gt0.false (c.joined-self.ensures.shown _ _);
    }

pub returns : goal.returns
returns c =
    asks_taken _ _ _ c.args.self.now.sound (sym c.in_ok-early_refusal.ensures) c.walk.new.self c.walk.ensures
    c.if-self-request-gt0.false (c.joined-self.ensures.shown _ _)
