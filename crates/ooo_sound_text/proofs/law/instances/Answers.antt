use Rattle.ooo_sound_text.proofs.Mains.{instances_are_filed}
use Rattle.ooo_sound_text.proofs.law.instances.Goals as goal

pub returns : goal.returns
returns c = instances_are_filed
