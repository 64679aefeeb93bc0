-- The rows so far.
use Rattle.ooo_fronts.specs.Reaching.{AreSoonest}
use Rattle.ooo_fronts.proofs.soonest.all_soonest.Given as goal

abbrev pub invariant-loop-a : goal.invariant-loop-a
invariant-loop-a l = AreSoonest l.tables l.a l.rows.items
