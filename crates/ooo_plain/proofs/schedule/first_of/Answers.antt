use Rattle.std.proofs.Common.{arith}
use Rattle.ooo_plain.proofs.Asking.{least_of_one}
use Rattle.ooo_plain.proofs.schedule.first_of.Goals as goal

pub returns-then-events-eq1 : goal.returns-then-events-eq1
returns-then-events-eq1 c = least_of_one c.args.bank.now c.args.now c.args.events.now c.first.result (omega arith) c.first.ensures
