-- By the sets.
use Rattle.ooo_conflicts.proofs.CalledLemmas.{called_is}
use Rattle.ooo_conflicts.proofs.called.called_by.Goals as goal

pub returns-clause-exact : goal.returns-clause-exact
returns-clause-exact c =
    called_is _ _ _ _ _ _ _ _ c.new-all.ensures (rw c.as_slice.ensures at c.in_ok-add_notified.ensures) (rw c.as_slice-2.ensures at c.in_ok-add_all.ensures) c.in_ok-all.ensures (rw c.as_slice-3.ensures at c.in_ok-own.ensures) c.in_ok-own-2.ensures
