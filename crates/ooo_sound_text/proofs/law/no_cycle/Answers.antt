use Rattle.ooo_sound_text.proofs.ReadModules.{no_call_on_cycle}
use Rattle.ooo_sound_text.proofs.law.no_cycle.Goals as goal

pub returns : goal.returns
returns c = no_call_on_cycle
