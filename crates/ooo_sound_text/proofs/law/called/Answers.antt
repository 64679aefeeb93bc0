use Rattle.ooo_sound_text.proofs.ReadModules.{called_dont_wait}
use Rattle.ooo_sound_text.proofs.law.called.Goals as goal

pub returns : goal.returns
returns c = called_dont_wait
