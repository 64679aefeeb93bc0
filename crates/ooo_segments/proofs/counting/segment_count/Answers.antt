-- The processes of a sound design are closed.
use Rattle.ooo_segments.proofs.Soundness.{sound_is_closed}
use Rattle.ooo_segments.proofs.counting.segment_count.Goals as goal

pub count_of_closed-requires : goal.count_of_closed-requires
count_of_closed-requires c = sound_is_closed c.args.design.now c.requires
