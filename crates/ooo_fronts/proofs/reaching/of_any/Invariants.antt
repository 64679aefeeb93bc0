-- The set has the numbers of the lists so far.
use Rattle.std.proofs.Common.{[]}
use Rattle.ooo_fronts.proofs.Listing.{Adds, Standing}
use Rattle.ooo_fronts.proofs.reaching.of_any.Given as goal

abbrev pub invariant-loop-k : goal.invariant-loop-k
invariant-loop-k l = Adds [] (Standing l.lists l.places) l.k-index l.set
