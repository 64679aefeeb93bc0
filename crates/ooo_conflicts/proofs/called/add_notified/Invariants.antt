-- The set has the events of the notifications so far.
use Rattle.std.proofs.Common.{take}
use Rattle.ooo_conflicts.proofs.SetLemmas.{HasEvents}
use Rattle.ooo_conflicts.proofs.called.add_notified.Given as goal

abbrev pub invariant-loop-notice : goal.invariant-loop-notice
invariant-loop-notice l = HasEvents l.fn.set l.set (take l.notice-index l.notified)
