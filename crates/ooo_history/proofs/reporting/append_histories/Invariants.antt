use Rattle.std.proofs.Common.{◌≡◌, ◌++◌, drop}
use Rattle.ooo_history.specs.Reporting.{histories_text}
use Rattle.ooo_history.proofs.reporting.append_histories.Given as goal

abbrev pub invariant-loop-channel : goal.invariant-loop-channel
invariant-loop-channel l = l.text.items ++ histories_text (drop l.channel l.names) (drop l.channel l.channels) ≡ l.fn.text.items ++ histories_text l.names l.channels
