use Rattle.ooo_channels.proofs.Reaching.{first_is_due}
use Rattle.ooo_channels.proofs.law.fires.Goals as goal

pub returns : goal.returns
returns c = λ ops w e h has. first_is_due ops w h e has
