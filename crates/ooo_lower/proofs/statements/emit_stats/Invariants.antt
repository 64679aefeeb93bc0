use Rattle.ooo_layout.specs.Scenes.{home_at}
use Rattle.ooo_lower.specs.Tasks.{Goes, before, left_of, nothing_left}
use Rattle.ooo_shapes.specs.Shapes.{shape_within}
use Rattle.ooo_lower.proofs.statements.emit_stats.Given as goal

abbrev pub invariant-steps : goal.invariant-steps
invariant-steps l =
    let home = home_at l.site.scene in
    Goes (before (shape_within l.site.spot.depth home l.body) l.site.spot.around l.site.spot.next nothing_left) (left_of home l.tasks) l.initial.code l.code
