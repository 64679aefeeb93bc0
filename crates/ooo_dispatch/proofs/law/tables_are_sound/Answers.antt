use Rattle.ooo_dispatch.proofs.Sounds.{are_sound}
use Rattle.ooo_dispatch.proofs.law.tables_are_sound.Goals as goal

pub returns : goal.returns
returns c = λ r rules sound. are_sound r rules sound c.does_as_said.ensures
