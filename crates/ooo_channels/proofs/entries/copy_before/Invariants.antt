use Rattle.std.proofs.Common.{◌≡◌, take}
use Rattle.ooo_channels.specs.Entries.{entries_before}
use Rattle.ooo_channels.proofs.entries.copy_before.Given as goal

abbrev pub invariant-loop-entry : goal.invariant-loop-entry
invariant-loop-entry l = l.copied.items ≡ entries_before l.before (take l.entry-index l.entries)
