-- The lines of the segments so far.
use Rattle.std.proofs.Common.{◌≡◌, ◌++◌}
use Rattle.ooo_tables.specs.Text.{each_below, leasts_from_text}
use Rattle.ooo_tables.proofs.texts.append_leasts.Given as goal

abbrev pub invariant-loop-a : goal.invariant-loop-a
invariant-loop-a l = l.text.items ≡ l.fn.text.items ++ each_below l.a (leasts_from_text l.advance l.count)
