use Rattle.std.proofs.Common.{sym, subst}
use Rattle.ooo_fronts.specs.Fronts.{AreFit}
use Rattle.ooo_fronts.proofs.fronts.Fronts.make.Goals as goal

pub counts_of-requires-clause-fit : goal.counts_of-requires-clause-fit
counts_of-requires-clause-fit c = subst (AreFit c.args.tables.now) (sym c.as_slice.ensures.value) c.requires.fit
