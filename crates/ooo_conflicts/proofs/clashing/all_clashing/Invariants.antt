-- The lists so far.
use Rattle.ooo_conflicts.proofs.ClashingLemmas.{ListsBefore}
use Rattle.ooo_conflicts.proofs.clashing.all_clashing.Given as goal

abbrev pub invariant-loop-g : goal.invariant-loop-g
invariant-loop-g l = ListsBefore l.rows l.g l.lists.items
