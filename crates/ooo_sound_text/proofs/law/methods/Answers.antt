use Rattle.ooo_sound_text.proofs.ReadModules.{methods_dont_wait}
use Rattle.ooo_sound_text.proofs.law.methods.Goals as goal

pub returns : goal.returns
returns c = methods_dont_wait
