use Rattle.ooo_channels.proofs.Showing.{forgotten_agrees}
use Rattle.ooo_channels.proofs.law.forgets.Goals as goal

pub returns : goal.returns
returns c = forgotten_agrees
