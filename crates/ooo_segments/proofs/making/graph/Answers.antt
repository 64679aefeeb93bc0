-- The processes of a sound design are closed.
use Rattle.ooo_segments.proofs.Soundness.{sound_is_closed}
use Rattle.ooo_segments.proofs.making.graph.Goals as goal

pub graph_of_closed-requires : goal.graph_of_closed-requires
graph_of_closed-requires c = sound_is_closed c.args.design.now c.requires
