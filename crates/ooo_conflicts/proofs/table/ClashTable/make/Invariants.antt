-- The rows so far.
use Rattle.ooo_conflicts.proofs.CalledLemmas.{RowsSoFar}
use Rattle.ooo_conflicts.proofs.table.ClashTable.make.Given as goal

abbrev pub invariant-loop-b : goal.invariant-loop-b
invariant-loop-b l = RowsSoFar l.design.events l.access l.b l.rows.items
