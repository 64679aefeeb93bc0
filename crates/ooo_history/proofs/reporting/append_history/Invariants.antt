use Rattle.std.proofs.Common.{◌≡◌, ◌++◌, drop}
use Rattle.ooo_history.specs.Reporting.{history_text}
use Rattle.ooo_history.proofs.reporting.append_history.Given as goal

abbrev pub invariant-loop-entry : goal.invariant-loop-entry
invariant-loop-entry l = l.text.items ++ history_text l.name (drop l.entry-index l.entries) ≡ l.fn.text.items ++ history_text l.name l.entries
