use Rattle.ooo_fronts.proofs.Ruling.{counts_by_rule}
use Rattle.ooo_fronts.proofs.law.counts_are_of_the_rule.Goals as goal

pub returns : goal.returns
returns c = counts_by_rule
