use Rattle.ooo_sound_text.proofs.Inside.{bodies_are_inside}
use Rattle.ooo_sound_text.proofs.law.bodies.Goals as goal

pub returns : goal.returns
returns c = bodies_are_inside
