use Rattle.ooo_board.proofs.Asking.{IsAskedFrom}
use Rattle.ooo_board.proofs.waking.soonest.Given as goal

abbrev pub invariant-events : goal.invariant-events
invariant-events l = IsAskedFrom l.bank l.events l.from l.i l.first

abbrev pub decreases-events : goal.decreases-events
decreases-events l = l.i
