-- The numbers so far are in the set.
use Rattle.ooo_fronts.proofs.Listing.{Adds, Itself}
use Rattle.ooo_fronts.proofs.reaching.add_all.Given as goal

abbrev pub invariant-loop-n : goal.invariant-loop-n
invariant-loop-n l = Adds l.fn.set (Itself l.numbers) l.n-index l.set
