use Rattle.ooo_sound_text.proofs.Declared.{names_stand}
use Rattle.ooo_sound_text.proofs.law.names.Goals as goal

pub returns : goal.returns
returns c = names_stand
