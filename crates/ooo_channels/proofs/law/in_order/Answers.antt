use Rattle.ooo_channels.proofs.Showing.{effect_in_order}
use Rattle.ooo_channels.proofs.law.in_order.Goals as goal

pub returns : goal.returns
returns c = effect_in_order
