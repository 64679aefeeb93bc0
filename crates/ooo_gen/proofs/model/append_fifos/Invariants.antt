-- The lines of the fifos so far.
use Rattle.std.proofs.Common.{◌≡◌, ◌++◌}
use Rattle.std.specs.List.{flat_map, range_with_len}
use Rattle.ooo_gen.specs.Text.{fifo_line}
use Rattle.ooo_gen.proofs.model.append_fifos.Given as goal

abbrev pub invariant-loop-fifo : goal.invariant-loop-fifo
invariant-loop-fifo l = l.text.items ≡ l.fn.text.items ++ flat_map fifo_line (range_with_len 0 l.fifo)
