use Rattle.ooo_channels.proofs.Settling.{settled}
use Rattle.ooo_channels.proofs.law.settles.Goals as goal

pub returns : goal.returns
returns c = λ ops w bounds h timely. settled ops w h timely bounds
