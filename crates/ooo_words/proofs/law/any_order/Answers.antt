use Rattle.ooo_words.proofs.Orders.{any_order}
use Rattle.ooo_words.proofs.law.any_order.Goals as goal

pub returns : goal.returns
returns c = any_order
