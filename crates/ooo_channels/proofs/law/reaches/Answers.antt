use Rattle.ooo_channels.proofs.Reaching.{reached_agrees}
use Rattle.ooo_channels.proofs.law.reaches.Goals as goal

pub returns : goal.returns
returns c = λ ops w next h is. reached_agrees ops w next h is
