use Rattle.ooo_shapes.proofs.Segments.{segments_same}
use Rattle.ooo_shapes.proofs.law.same_segments.Goals as goal

pub returns : goal.returns
returns c = λ b p count process own sound is e. segments_same b p count process own sound is e
