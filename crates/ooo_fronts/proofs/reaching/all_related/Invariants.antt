-- The lists so far.
use Rattle.ooo_fronts.specs.Reaching.{AreListsOf, RelatesTo}
use Rattle.ooo_fronts.proofs.reaching.all_related.Given as goal

abbrev pub invariant-loop-a : goal.invariant-loop-a
invariant-loop-a l = AreListsOf (RelatesTo l.tables l.relation) l.a l.lists.items
