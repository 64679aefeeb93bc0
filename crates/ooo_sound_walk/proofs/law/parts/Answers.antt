use Rattle.ooo_sound_walk.proofs.Parts.{walks_fit}
use Rattle.ooo_sound_walk.proofs.law.parts.Goals as goal

pub returns : goal.returns
returns c = walks_fit
