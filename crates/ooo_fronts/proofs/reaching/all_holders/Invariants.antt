-- The lists so far.
use Rattle.ooo_fronts.specs.Reaching.{AreListsOf, CanBeHeldBy}
use Rattle.ooo_fronts.proofs.reaching.all_holders.Given as goal

abbrev pub invariant-loop-p : goal.invariant-loop-p
invariant-loop-p l = AreListsOf (CanBeHeldBy l.tables) l.p l.lists.items
