use Rattle.ooo_sound_walk.proofs.Names.{names_are_meant}
use Rattle.ooo_sound_walk.proofs.law.names.Goals as goal

pub returns : goal.returns
returns c = names_are_meant
