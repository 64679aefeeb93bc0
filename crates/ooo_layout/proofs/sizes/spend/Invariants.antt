use Rattle.std.proofs.Common.{◌≡◌, ◌+◌}
use Rattle.ooo_layout.specs.Weighing.{owed_count, owed_size, sizes_by, weight_by}
use Rattle.ooo_layout.proofs.sizes.spend.Given as goal

abbrev pub invariant-calls : goal.invariant-calls
invariant-calls l = l.rest + weight_by (sizes_by l.depth l.weights) l.w ≡ l.left + owed_size l.weights l.owed

abbrev pub decreases-calls : goal.decreases-calls
decreases-calls l = owed_count l.weights l.owed
