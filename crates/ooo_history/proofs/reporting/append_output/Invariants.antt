use Rattle.std.proofs.Common.{◌≡◌, ◌++◌, drop}
use Rattle.ooo_history.specs.Reporting.{output_text}
use Rattle.ooo_history.proofs.reporting.append_output.Given as goal

abbrev pub invariant-loop-piece : goal.invariant-loop-piece
invariant-loop-piece l = l.text.items ++ output_text (drop l.piece-index l.pieces) ≡ l.fn.text.items ++ output_text l.pieces
