use Rattle.ooo_advance.proofs.OrderLemmas.{joined_left, joined_right, joined_more}
use Rattle.ooo_advance.proofs.law.joining_keeps_the_order.Goals as goal

pub returns : goal.returns
returns c = record { first = joined_left; second = joined_right; more = joined_more }
