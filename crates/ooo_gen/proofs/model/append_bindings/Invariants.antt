-- The lines of the stages so far.
use Rattle.std.proofs.Common.{◌≡◌, ◌++◌}
use Rattle.std.specs.List.{flat_map, range_with_len}
use Rattle.ooo_gen.specs.Text.{binding_line}
use Rattle.ooo_gen.proofs.model.append_bindings.Given as goal

abbrev pub invariant-loop-index : goal.invariant-loop-index
invariant-loop-index l = l.text.items ≡ l.fn.text.items ++ flat_map binding_line (range_with_len 1 l.index)
