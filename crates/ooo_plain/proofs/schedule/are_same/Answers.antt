use Rattle.std.proofs.Common.{arith, ◌∙◌}
use Rattle.ooo_plain.proofs.Asking.{one_is}
use Rattle.ooo_plain.proofs.schedule.are_same.Goals as goal

pub returns-then-b-eq1 : goal.returns-then-b-eq1
returns-then-b-eq1 c = λ same. c.is_one.ensures same ∙ one_is c.args.b.now (omega arith)
