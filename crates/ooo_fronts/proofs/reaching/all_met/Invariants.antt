-- The lists so far.
use Rattle.ooo_fronts.specs.Reaching.{AreListsOf, MeetsProcess}
use Rattle.ooo_fronts.proofs.reaching.all_met.Given as goal

abbrev pub invariant-loop-b : goal.invariant-loop-b
invariant-loop-b l = AreListsOf (MeetsProcess l.tables) l.b l.lists.items
