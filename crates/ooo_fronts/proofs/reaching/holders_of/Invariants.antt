-- The set has the processes of the segments so far that can hold up the process.
use Rattle.std.proofs.Common.{[]}
use Rattle.ooo_fronts.proofs.Listing.{Adds, Holding}
use Rattle.ooo_fronts.proofs.reaching.holders_of.Given as goal

abbrev pub invariant-loop-a : goal.invariant-loop-a
invariant-loop-a l = Adds [] (Holding l.tables l.affected l.p) l.a l.set
