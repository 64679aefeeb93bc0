use Rattle.std.proofs.Common.{◌≡◌, ◌+◌, drop}
use Rattle.std.specs.List.{prefix_len}
use Rattle.ooo_lexer.specs.Runs.{has}
use Rattle.ooo_lexer.proofs.bytes.Class.run_length.Given as goal

abbrev pub invariant-loop-i : goal.invariant-loop-i
invariant-loop-i l = l.i + prefix_len (has l.self) (drop l.i l.bytes) ≡ prefix_len (has l.self) l.bytes
