-- So many are in order so far.
use Rattle.ooo_interp.specs.Carrying.{StandInOrder}
use Rattle.ooo_interp.proofs.job_parts.in_order.Given as goal

abbrev pub invariant-loop-at : goal.invariant-loop-at
invariant-loop-at l = StandInOrder l.first l.at l.carried
