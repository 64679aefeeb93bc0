use Rattle.ooo_channels.proofs.Apart.{channel_same}
use Rattle.ooo_channels.proofs.law.apart.Goals as goal

pub returns : goal.returns
returns c = λ ops others n h. channel_same ops others n h
