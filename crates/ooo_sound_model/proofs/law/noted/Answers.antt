use Rattle.ooo_sound_model.proofs.Noted.{calls_are_noted}
use Rattle.ooo_sound_model.proofs.law.noted.Goals as goal

pub returns : goal.returns
returns c = calls_are_noted
