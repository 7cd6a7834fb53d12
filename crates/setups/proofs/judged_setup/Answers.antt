-- `setups::judged_setup` meets its contract: an accepted setup has 32 priority bytes. Assumes nothing.
use Rattle.std.proofs.Common.{sym}
use Rattle.laws.proofs.Accepted.{setup_taken}
use Rattle.setups.specs.Judging.{asked_by}
use Rattle.setups.proofs.judged_setup.Goals as goal

pub copy_from_slice-requires : goal.copy_from_slice-requires
copy_from_slice-requires c =
    sym (setup_taken (asked_by c.args.wanted) (sym c.in_ok-setup_refusal.ensures)).bytes
