-- The kinds so far, in every design that calls what is given.
use Rattle.std.proofs.Common.{◌≡◌, List, length}
use Rattle.ooo_value.specs.declared.bound.BoundEvent.{BoundEvent}
use Rattle.ooo_conflicts.specs.Kinds.{AllCalled, AreCalled}
use Rattle.ooo_conflicts.proofs.CalledLemmas.{RowSoFar}
use Rattle.ooo_conflicts.proofs.table.row_of.Given as goal

abbrev pub invariant-loop-g : goal.invariant-loop-g
invariant-loop-g l = record {
  count : length l.row ≡ l.g;
  kinds : (events : List BoundEvent) → AreCalled events l.b l.b_calls → AllCalled events l.access l.called → RowSoFar events l.b l.access l.g l.row;
}
