use Rattle.ooo_sound_model.proofs.Names.{all_have_names}
use Rattle.ooo_sound_model.proofs.law.named.Goals as goal

pub returns : goal.returns
returns c = all_have_names
