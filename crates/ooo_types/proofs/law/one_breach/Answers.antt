use Rattle.ooo_types.proofs.Least.{one_least, not_both, either}
use Rattle.ooo_types.proofs.law.one_breach.Goals as goal

pub returns-clause-breach : goal.returns-clause-breach
returns-clause-breach c = one_least

pub returns-clause-not_both : goal.returns-clause-not_both
returns-clause-not_both c = not_both

pub returns-clause-either : goal.returns-clause-either
returns-clause-either c = either
