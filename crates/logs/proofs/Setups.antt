-- The setup of a log that reads. Assumes nothing.
use mathlib.Core.Path.{◌≡◌}
use mathlib.Core.List.{List}
use Prim.Native.Nat.{ℕ}
use Rattle.rule.specs.Setups.{setup_refusal_lem}
use Rattle.judging.specs.Log.{Reads}
use Rattle.judging.proofs.Accepted.{accepted_sized, accepted_passed}
use Rattle.logs.specs.Records.{setup_of_lem}

pub accepted_setup : (log : List ℕ) → Reads log → setup_refusal_lem (setup_of_lem log) ≡ 0
accepted_setup log r = (accepted_passed log r 0 (accepted_sized log r).some).setup
