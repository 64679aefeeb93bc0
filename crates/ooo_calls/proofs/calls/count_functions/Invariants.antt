-- The functions of the calls so far are below the count.
use Rattle.std.proofs.Common.{take}
use Rattle.ooo_calls.specs.Marks.{AreBelow}
use Rattle.ooo_calls.proofs.calls.count_functions.Given as goal

abbrev pub invariant-calls : goal.invariant-calls
invariant-calls l = AreBelow l.count (take l.call-index l.calls)
