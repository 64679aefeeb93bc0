-- The numbers so far are those of the set below n, ascending.
use Rattle.std.proofs.Common.{◌≡◌}
use Rattle.ooo_segments.proofs.Marks.{NumbersBelow}
use Rattle.ooo_segments.proofs.numbers.NumberSet.numbers.Given as goal

abbrev pub invariant-loop-n : goal.invariant-loop-n
invariant-loop-n l = record { items : l.marked-items ≡ l.fn.self; numbers : NumbersBelow l.fn.self l.n l.numbers.items }
