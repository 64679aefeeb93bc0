-- What the accesses so far call.
use Rattle.ooo_conflicts.proofs.CalledLemmas.{CalledSoFar}
use Rattle.ooo_conflicts.proofs.called.all_called.Given as goal

abbrev pub invariant-loop-one : goal.invariant-loop-one
invariant-loop-one l = CalledSoFar l.events l.access l.one-index l.called.items
