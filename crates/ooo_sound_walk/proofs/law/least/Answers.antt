use Rattle.ooo_sound_walk.proofs.Closed.{reached_are_least}
use Rattle.ooo_sound_walk.proofs.law.least.Goals as goal

pub returns : goal.returns
returns c = reached_are_least
