use Rattle.ooo_sound_text.proofs.Declared.{functions_are_of_text}
use Rattle.ooo_sound_text.proofs.law.functions.Goals as goal

pub returns : goal.returns
returns c = functions_are_of_text
