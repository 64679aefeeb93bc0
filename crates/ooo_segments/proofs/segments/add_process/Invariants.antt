-- Added are the start and the waits so far.
use Rattle.ooo_segments.proofs.Additions.{AddedTo}
use Rattle.ooo_segments.proofs.segments.add_process.Given as goal

abbrev pub invariant-loop-n : goal.invariant-loop-n
invariant-loop-n l = AddedTo l.design l.p l.process l.fn.segments.items l.segments.items l.n
