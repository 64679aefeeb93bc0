use Rattle.ooo_shapes.proofs.Soundness.{design_sound}
use Rattle.ooo_shapes.proofs.law.sound_design.Goals as goal

pub returns : goal.returns
returns c = λ b sound. design_sound b sound
