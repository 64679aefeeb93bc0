use Rattle.std.proofs.Common.{length, sym, subst}
use Rattle.ooo_fronts.specs.Reaching.{AreListsOf, LeadsTo}
use Rattle.ooo_fronts.proofs.reaching.Reaches.make.Goals as goal

pub all_affected-requires-clause-leads : goal.all_affected-requires-clause-leads
all_affected-requires-clause-leads c = let t = c.args.tables.now in subst (AreListsOf (LeadsTo t) (length t.graph.segments)) (sym c.as_slice.ensures.value) c.in_ok-leads.ensures
