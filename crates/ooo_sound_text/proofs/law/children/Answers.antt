use Rattle.ooo_sound_text.proofs.Declared.{children_stand_before}
use Rattle.ooo_sound_text.proofs.law.children.Goals as goal

pub returns : goal.returns
returns c = children_stand_before
