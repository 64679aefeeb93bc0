-- The lines of the segments so far.
use Rattle.std.proofs.Common.{◌≡◌, ◌++◌}
use Rattle.std.specs.Prelude.{slice_get}
use Rattle.ooo_tables.specs.Text.{each_below, segment_line}
use Rattle.ooo_tables.proofs.texts.append_segments.Given as goal

abbrev pub invariant-loop-n : goal.invariant-loop-n
invariant-loop-n l =
    l.text.items ≡ l.fn.text.items ++ each_below l.n (λ n. segment_line l.design l.names n (slice_get l.segments n))
