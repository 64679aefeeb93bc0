-- The lines of the stages so far, and the last number that was drawn.
use Rattle.std.proofs.Common.{◌≡◌, ◌++◌}
use Rattle.std.specs.List.{flat_map, range_with_len}
use Rattle.ooo_gen.specs.Numbers.{number_of}
use Rattle.ooo_gen.specs.Text.{seeded_line}
use Rattle.ooo_gen.proofs.model.append_stages.Given as goal

abbrev pub invariant-loop-index : goal.invariant-loop-index
invariant-loop-index l =
    (l.text.items ≡ l.fn.text.items ++ flat_map (seeded_line l.seed) (range_with_len 1 l.index))
    × (l.numbers.last ≡ number_of l.seed l.index)
