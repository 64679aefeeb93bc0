-- The processes of the segments so far are below the count.
use Rattle.std.proofs.Common.{◌≤◌, ◌^◌}
use Rattle.ooo_fronts.proofs.Listing.{AreBelow}
use Rattle.ooo_fronts.proofs.reaching.process_count.Given as goal

abbrev pub invariant-loop-a : goal.invariant-loop-a
invariant-loop-a l = AreBelow l.tables l.a l.count × (l.count ≤ 2 ^ 32)
