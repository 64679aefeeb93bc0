-- The set has the segments so far to which the segment stands so.
use Rattle.std.proofs.Common.{[]}
use Rattle.ooo_fronts.proofs.Listing.{Adds, Related}
use Rattle.ooo_fronts.proofs.reaching.related_to.Given as goal

abbrev pub invariant-loop-b : goal.invariant-loop-b
invariant-loop-b l = Adds [] (Related l.tables l.relation l.a) l.b l.set
