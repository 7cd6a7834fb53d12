-- Nothing is queued, so the parts are those of the fresh state (Assembly).
use Rattle.engine.proofs.Assembly.{begun_kept, begun_sound, begun_parts}
use Rattle.engine.proofs.Live.fresh.Goals as goal

pub invariant_of-result : goal.invariant_of-result
invariant_of-result c = record { kept = begun_kept c.args.setup; sound = begun_sound c.args.setup c.requires }

pub returns : goal.returns
returns c = begun_parts c.args.setup
