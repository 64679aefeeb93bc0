use Rattle.ooo_sound_text.proofs.ReadModules.{events_are_of_text}
use Rattle.ooo_sound_text.proofs.law.events.Goals as goal

pub returns : goal.returns
returns c = events_are_of_text
