use Rattle.ooo_channels.proofs.Showing.{shown}
use Rattle.ooo_channels.proofs.law.shows.Goals as goal

pub returns : goal.returns
returns c = shown
