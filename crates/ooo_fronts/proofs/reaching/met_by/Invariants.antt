-- The set has the processes of the segments so far that the segment meets.
use Rattle.std.proofs.Common.{[]}
use Rattle.ooo_fronts.proofs.Listing.{Adds, Meeting}
use Rattle.ooo_fronts.proofs.reaching.met_by.Given as goal

abbrev pub invariant-loop-c : goal.invariant-loop-c
invariant-loop-c l = Adds [] (Meeting l.tables l.b) l.c l.set
