use Rattle.std.proofs.Common.{sym, subst}
use Rattle.ooo_channels.specs.Bank.{Applies}
use Rattle.ooo_channels.proofs.Applying.{applies_nothing}
use Rattle.ooo_channels.proofs.bank.Bank.apply_one.Goals as goal

pub returns-in-Stop : goal.returns-in-Stop
returns-in-Stop c = subst (Applies c.args.self.now c.args.self.now c.args.at) (sym c.in-Stop.is) (applies_nothing c.args.self.now c.args.at)
