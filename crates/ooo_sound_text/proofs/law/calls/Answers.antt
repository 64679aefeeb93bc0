use Rattle.ooo_sound_text.proofs.Stats.{calls_are_of_scope}
use Rattle.ooo_sound_text.proofs.law.calls.Goals as goal

pub returns : goal.returns
returns c = calls_are_of_scope
