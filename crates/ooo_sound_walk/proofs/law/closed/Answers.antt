use Rattle.ooo_sound_walk.proofs.Closed.{reached_are_closed}
use Rattle.ooo_sound_walk.proofs.law.closed.Goals as goal

pub returns : goal.returns
returns c = reached_are_closed
