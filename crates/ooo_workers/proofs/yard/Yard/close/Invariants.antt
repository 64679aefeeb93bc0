use Rattle.std.proofs.Common.{◌≡◌, [], length}
use Rattle.ooo_workers.proofs.Gather.{Joined}
use Rattle.ooo_workers.proofs.yard.Yard.close.Given as goal

abbrev pub invariant-joins : goal.invariant-joins
invariant-joins l = record {
  table : l.place.table_id ≡ l.self.table.shared.table_id;
  hand : l.place.me.1 ≡ [];
  all : Joined l.self.table.shared.table_id l.fn.passes.items l.passes.items l.place.me.0;
}

abbrev pub decreases-joins : goal.decreases-joins
decreases-joins l = length l.passes.items
