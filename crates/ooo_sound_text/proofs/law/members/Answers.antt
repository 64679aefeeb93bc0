use Rattle.ooo_sound_text.proofs.Places.{functions_are_there}
use Rattle.ooo_sound_text.proofs.law.members.Goals as goal

pub returns : goal.returns
returns c = functions_are_there
