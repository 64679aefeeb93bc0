-- The lines to the segments so far.
use Rattle.std.proofs.Common.{◌≡◌, ◌++◌}
use Rattle.ooo_advance.specs.Rows.{entry_at}
use Rattle.ooo_tables.specs.Text.{each_below, least_text}
use Rattle.ooo_tables.proofs.texts.append_leasts_from.Given as goal

abbrev pub invariant-loop-b : goal.invariant-loop-b
invariant-loop-b l = l.text.items ≡ l.fn.text.items ++ each_below l.b (λ b. least_text l.a b (entry_at l.advance l.a b))
