-- The lines with the segments so far.
use Rattle.std.proofs.Common.{◌≡◌, ◌++◌}
use Rattle.ooo_tables.specs.Text.{each_below, clash_between_text}
use Rattle.ooo_tables.proofs.texts.append_clashes_of.Given as goal

abbrev pub invariant-loop-b : goal.invariant-loop-b
invariant-loop-b l = l.text.items ≡ l.fn.text.items ++ each_below l.b (clash_between_text l.segments l.clash l.a)
