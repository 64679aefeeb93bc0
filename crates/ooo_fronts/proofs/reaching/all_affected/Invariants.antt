-- The lists so far.
use Rattle.ooo_fronts.specs.Reaching.{AreListsOf, CanHoldProcess}
use Rattle.ooo_fronts.proofs.reaching.all_affected.Given as goal

abbrev pub invariant-loop-a : goal.invariant-loop-a
invariant-loop-a l = AreListsOf (CanHoldProcess l.tables) l.a l.lists.items
