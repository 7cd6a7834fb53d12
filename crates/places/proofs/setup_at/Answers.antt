-- `places::setup_at` meets its contract: past block 0 the log reads, and `Log::setup` gives its setup. Assumes
-- nothing.
use native.Mathlib.Omega.{arith}
use Prim.Native.Nat.{ℕ, ◌<◌, ◌≤◌}
use mathlib.Core.Path.{◌≡◌, ◌∙◌}
use mathlib.Core.List.{List}
use borrow.Author.Tests.{le-leb, lt-leb}
use Rattle.logs.specs.Records.{setup_of_lem}
use Rattle.rule.specs.Setups.{plain}
use Rattle.places.specs.Places.{setup_at_lem}
use Rattle.places.proofs.setup_at.Goals as goal

setup_at_reads : (log : List ℕ) (b : ℕ) → 1 ≤ b → setup_of_lem log ≡ setup_at_lem log b
unfolding setup_at_lem
setup_at_reads log b h = rw (le-leb 1 b h)

setup_at_none : (log : List ℕ) (b : ℕ) → b < 1 → plain ≡ setup_at_lem log b
unfolding setup_at_lem
setup_at_none log b h = rw (lt-leb 1 b h)

pub returns-then-block-eq0 : goal.returns-then-block-eq0
returns-then-block-eq0 c =
    c.plain.ensures ∙ setup_at_none _ _ (omega (arith, c.if-block-eq0.true))

pub invariant_of-setup : goal.invariant_of-setup
invariant_of-setup c =
    record { reads = (c.requires (omega (arith, c.if-block-eq0.false))).reads }

pub returns : goal.returns
returns c =
    c.setup.ensures ∙ setup_at_reads _ _ (omega (arith, c.if-block-eq0.false))
