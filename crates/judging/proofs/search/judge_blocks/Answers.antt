-- `judging::search::judge_blocks` meets its contract. Outside, what is judged from the first block on is what is
-- judged from this one on; inside, the bytes are as zero as those from this one on. Assumes nothing.
use Rattle.std.specs.Prelude.{ℕ, ◌≡◌, ◌+◌, ◌*◌, ◌-◌, ◌≤◌, ◌<◌, ◌||◌, true, cond, List, length, get_or, take, drop, eqb}
use Rattle.std.proofs.Common.{arith, rules, refl, sym, ap, ◌∙◌}
use Rattle.std.proofs.Math.Nat.{sub-zero}
use Rattle.std.proofs.Math.Seq.{slice}
use Rattle.lists.specs.Lists.{zeros}
use Rattle.lists.proofs.Zeros.{zeros_same, zeros_other, zeros_past}
use Rattle.rule.specs.Setups.{setup_refusal_lem}
use Rattle.judging.specs.Blocks.{setup_in_lem, count, records_to, count_fits, first_unused_lem}
use Rattle.judging.specs.Log.{refused, accepted, at_block, head_refusal, block_refusal_lem, judged_from}
use Rattle.judging.proofs.Blocks.{records_zero, records_full, unused_from}
use Rattle.judging.proofs.Judging.{part_block, length_part, Before, refusal_head, head_counts}
use Rattle.judging.proofs.Judging.{refusal_byte, refusal_setup, judged_good, judged_refused}
use Rattle.judging.proofs.Judging.{judged_end, at_block_none, at_block_some, at_block_is}
use Rattle.judging.proofs.search.judge_blocks.Goals as goal

-- where block i is begun, its bytes are these
abbrev part_at : List ℕ → ℕ → List ℕ
part_at log i = take (512 * i + 512 - 512 * i) (drop (512 * i) log)

-- a block is begun
record Begun (log : List ℕ) (n i : ℕ) : Type 0 where
  start : judged_from log 0 n ≡ judged_from log i (n - i)
  inside : i < n
  before : Before log n i
  whole : length (part_at log i) ≡ 512

begun : (log : List ℕ) (n i : ℕ) → 512 * n ≡ length log → i < n → judged_from log 0 n ≡ judged_from log i (n - i)
    → (i < n → records_to log (i - 1) ≡ 41 * (i - 1)) → Begun log n i
begun log n i size h e full = record {
  start = e;
  inside = h;
  before = record { size = omega arith; full = full h };
  whole = length_part log i (omega arith);
}

module _ {log : List ℕ} {n i : ℕ} (b : Begun log n i) where
  -- it is refused, or not
  stopped : {k m j : ℕ} → block_refusal_lem log i ≡ k → refused m j ≡ at_block i k → refused m j ≡ judged_from log 0 n
  stopped {k} e v =
      let z : k ≡ 0 → ⊥ = at_block_some i k v in
      v ∙ at_block_is i k z ∙ sym (b.start ∙ judged_refused log n i k b.inside e z)

  passed : block_refusal_lem log i ≡ 0 → judged_from log 0 n ≡ judged_from log (i + 1) (n - (i + 1))
  passed e = b.start ∙ judged_good log n i b.inside e

  -- its head is refused, or not
  head_stopped : {m j : ℕ} → refused m j ≡ at_block i (head_refusal n i (part_at log i))
      → refused m j ≡ judged_from log 0 n
  head_stopped v = stopped (refusal_head b.before (part_block log i) (at_block_some i _ v)) v

  module _ (v : accepted ≡ at_block i (head_refusal n i (part_at log i))) where
    counted : (eqb i 0 || count_fits n i (41 * (i - 1)) (count (part_at log i))) ≡ true
    counted = head_counts b.before (part_block log i) (at_block_none i _ v)

    unused_fits : (length (part_at log i) ≡ 512) × (first_unused_lem i (part_at log i) ≤ 508)
    unused_fits = (b.whole, unused_from n i (41 * (i - 1)) (part_at log i) counted)

    more_full : i + 1 < n → records_to log (i + 1 - 1) ≡ 41 * (i + 1 - 1)
    more_full h = records_full log n i (part_block log i) b.before.full counted h

    -- the bytes that must be zero are as zero as those from k on of these
    module _ (items : List ℕ) (k : ℕ) {unused : List ℕ}
        (u : unused ≡ slice (first_unused_lem i (part_at log i)) 508 (part_at log i))
        (p : zeros items ≡ zeros unused) (e : zeros items ≡ zeros (drop k items)) where
      from_k : zeros (slice (first_unused_lem i (part_at log i)) 508 (part_at log i)) ≡ zeros (drop k items)
      from_k = ap zeros (sym u) ∙ sym p ∙ e

      byte_stopped : k < length items → (get_or items k 0 ≡ 0 → ⊥) → refused 33 i ≡ judged_from log 0 n
      byte_stopped h z =
          stopped
          (refusal_byte b.before (part_block log i) (at_block_none i _ v) (from_k ∙ zeros_other items k h z))
          refl

      setup_left : length items ≤ k
          → block_refusal_lem log i ≡ cond (eqb i 0) (setup_refusal_lem (setup_in_lem (part_at log i))) 0
      setup_left h =
          refusal_setup b.before (part_block log i) (at_block_none i _ v) (from_k ∙ zeros_past items k h)

pub loop-block-init : goal.loop-block-init
loop-block-init c = (rw sub-zero, λ h. records_zero _)

pub judge_head-requires : goal.judge_head-requires
judge_head-requires c =
    let b = begun c.args.log.now c.args.blocks c.loop-block.block c.requires.0 c.loop-block-test.true
    c.loop-block.invariant.0 c.loop-block.invariant.1 in
    (b.whole, c.loop-block-test.true, c.requires.2)

pub returns-in_err-judge_head : goal.returns-in_err-judge_head
returns-in_err-judge_head c =
    let b = begun c.args.log.now c.args.blocks c.loop-block.block c.requires.0 c.loop-block-test.true
    c.loop-block.invariant.0 c.loop-block.invariant.1 in
    let e = head_stopped b c.in_err-judge_head.ensures in
    search rules

pub unused-requires : goal.unused-requires
unused-requires c =
    let b = begun c.args.log.now c.args.blocks c.loop-block.block c.requires.0 c.loop-block-test.true
    c.loop-block.invariant.0 c.loop-block.invariant.1 in
    unused_fits b c.in_ok-judge_head.ensures

pub loop-byte-preserved : goal.loop-byte-preserved
loop-byte-preserved c =
    c.loop-byte.invariant ∙ zeros_same _ _ c.loop-byte-test.true c.if-byte-ne0.false

pub returns-then-byte-ne0 : goal.returns-then-byte-ne0
returns-then-byte-ne0 c =
    let b = begun c.args.log.now c.args.blocks c.loop-block.block c.requires.0 c.loop-block-test.true
    c.loop-block.invariant.0 c.loop-block.invariant.1 in
    byte_stopped b c.in_ok-judge_head.ensures c.past_zeros-byte-items.result.now c.loop-byte.byte-index
    c.unused.ensures c.past_zeros-byte-items.ensures c.loop-byte.invariant
    c.loop-byte-test.true c.if-byte-ne0.true

pub returns-in_err-judge_setup : goal.returns-in_err-judge_setup
returns-in_err-judge_setup c =
    let b = begun c.args.log.now c.args.blocks c.loop-block.block c.requires.0 c.loop-block-test.true
    c.loop-block.invariant.0 c.loop-block.invariant.1 in
    let left = setup_left b c.in_ok-judge_head.ensures c.past_zeros-byte-items.result.now c.loop-byte.byte-index
    c.unused.ensures c.past_zeros-byte-items.ensures
    c.loop-byte.invariant c.loop-byte-test.false in
    let e = stopped b left c.in_err-judge_setup.ensures in
    search rules

pub loop-block-preserved : goal.loop-block-preserved
loop-block-preserved c =
    let b = begun c.args.log.now c.args.blocks c.loop-block.block c.requires.0 c.loop-block-test.true
    c.loop-block.invariant.0 c.loop-block.invariant.1 in
    let left = setup_left b c.in_ok-judge_head.ensures c.past_zeros-byte-items.result.now c.loop-byte.byte-index
    c.unused.ensures c.past_zeros-byte-items.ensures
    c.loop-byte.invariant c.loop-byte-test.false in
    (passed b (left ∙ at_block_none _ _ c.in_ok-judge_setup.ensures), more_full b c.in_ok-judge_head.ensures)

pub returns-after-loop-block : goal.returns-after-loop-block
returns-after-loop-block c = sym (c.loop-block.invariant.0 ∙ judged_end _ _ _ c.loop-block-test.false)
