-- The segments so far are in order.
use Rattle.std.proofs.Common.{◌≡◌, length}
use Rattle.std.specs.Prelude.{All}
use Rattle.ooo_access.specs.Access.{IsInOrder}
use Rattle.ooo_tables_checks.proofs.advance.four.Given as goal

abbrev pub invariant-loop-k : goal.invariant-loop-k
invariant-loop-k l = record { count : length l.access.items ≡ l.k; in_order : All IsInOrder l.access.items }
