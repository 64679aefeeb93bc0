use Rattle.ooo_fronts.proofs.Ruling.{tables_aligned}
use Rattle.ooo_fronts.proofs.law.tables_are_aligned.Goals as goal

pub returns : goal.returns
returns c = tables_aligned
