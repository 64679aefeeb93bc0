use Rattle.ooo_sound_walk.proofs.Clocks.{clocks_are_right}
use Rattle.ooo_sound_walk.proofs.law.clocks.Goals as goal

pub returns : goal.returns
returns c = clocks_are_right
