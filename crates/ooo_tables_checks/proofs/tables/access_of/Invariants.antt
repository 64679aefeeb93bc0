-- The accesses so far, one for each segment.
use Rattle.std.proofs.Common.{◌≡◌, length}
use Rattle.std.specs.Prelude.{All}
use Rattle.ooo_access.specs.Access.{IsInOrder}
use Rattle.ooo_tables_checks.proofs.tables.access_of.Given as goal

abbrev pub invariant-loop-segment : goal.invariant-loop-segment
invariant-loop-segment l = record { count : length l.access.items ≡ l.segment-index; in_order : All IsInOrder l.access.items }
