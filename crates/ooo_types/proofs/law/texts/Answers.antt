use Rattle.ooo_types.proofs.ErasedUnits.{unit_same}
use Rattle.ooo_types.proofs.law.texts.Goals as goal

pub returns : goal.returns
returns c = unit_same c.exprs.ensures c.simples.ensures c.stats.ensures
