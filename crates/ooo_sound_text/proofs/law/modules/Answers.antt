use Rattle.ooo_sound_text.proofs.Files.{modules_are_read}
use Rattle.ooo_sound_text.proofs.law.modules.Goals as goal

pub returns : goal.returns
returns c = modules_are_read
