-- By the list that was kept.
use Rattle.ooo_conflicts.proofs.ClashingLemmas.{lent_list}
use Rattle.ooo_conflicts.proofs.table.ClashTable.clashing.Goals as goal

pub returns-clause-exact : goal.returns-clause-exact
returns-clause-exact c = rw c.as_slice.ensures (lent_list _ _ _ c.args.g c.index.result.now c.self.invariant c.self.view_is c.requires c.index.ensures).exact

pub returns-clause-ascending : goal.returns-clause-ascending
returns-clause-ascending c = rw c.as_slice.ensures (lent_list _ _ _ c.args.g c.index.result.now c.self.invariant c.self.view_is c.requires c.index.ensures).ascending
