use Rattle.ooo_channels.proofs.Apart.{others_left}
use Rattle.ooo_channels.proofs.law.others_stay.Goals as goal

pub returns : goal.returns
returns c = others_left
