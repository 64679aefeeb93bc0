use Rattle.std.proofs.Common.{◌+◌, ◌*◌, drop}
use Rattle.ooo_layout.proofs.Measured.{MeasuresBut}
use Rattle.ooo_shapes.specs.Shapes.{body_shape}
use Rattle.ooo_layout.proofs.extents.+extents.Given as goal

abbrev pub decreases-of_stat : goal.decreases-of_stat
decreases-of_stat l = goal.size-of_stat l * 2

abbrev pub decreases-of_else : goal.decreases-of_else
decreases-of_else l = goal.size-of_else l * 2 + 1

abbrev pub decreases-of_stats : goal.decreases-of_stats
decreases-of_stats l = goal.size-of_stats l * 2 + 1

abbrev pub invariant-of_stats-parts : goal.invariant-of_stats-parts
invariant-of_stats-parts l =
    MeasuresBut l.all l.known.model.now
    (λ h callees. (body_shape h callees (drop l.stat-index l.body)).size)
    (λ h callees. (body_shape h callees l.body).size)
