-- The notifications that were there, and those of the events so far.
use Rattle.std.proofs.Common.{take}
use Rattle.ooo_access.proofs.Calling.{HasCalled}
use Rattle.ooo_access.proofs.notices.Called.add.Given as goal

abbrev pub invariant-loop-e : goal.invariant-loop-e
invariant-loop-e l = HasCalled l.self.changed l.self.taken l.self.given (take l.e l.events) l.fn.notices.items l.notices.items
