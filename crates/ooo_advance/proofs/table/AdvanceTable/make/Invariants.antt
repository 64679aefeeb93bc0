-- The rows so far.
use Rattle.ooo_advance.proofs.TableLemmas.{RowsSoFar}
use Rattle.ooo_advance.proofs.table.AdvanceTable.make.Given as goal

abbrev pub invariant-loop-source : goal.invariant-loop-source
invariant-loop-source l = RowsSoFar l.graph l.access l.source l.rows.items
