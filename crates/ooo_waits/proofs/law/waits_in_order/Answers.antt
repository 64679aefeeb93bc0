use Rattle.ooo_waits.proofs.Ordered.{in_order}
use Rattle.ooo_waits.proofs.law.waits_in_order.Goals as goal

pub returns : goal.returns
returns c = λ b process first. in_order b process first
