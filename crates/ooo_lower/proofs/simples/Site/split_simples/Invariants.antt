use Rattle.std.proofs.Common.{◌≤◌, length}
use Rattle.ooo_layout.specs.Scenes.{home_at}
use Rattle.ooo_lower.specs.Tasks.{left_of}
use Rattle.ooo_lower.proofs.Apart.{SimplesLeft}
use Rattle.ooo_shapes.specs.Shapes.{callees_within}
use Rattle.ooo_lower.proofs.simples.Site.split_simples.Given as goal

abbrev pub invariant-parts : goal.invariant-parts
invariant-parts l =
    let home = home_at l.self.scene in
    (l.left ≤ length l.xs)
    × SimplesLeft home (callees_within l.self.spot.depth home) l.self.spot.around l.self.spot.next l.at l.whole l.rest l.left l.xs (left_of home l.initial.tasks) (left_of home l.tasks)

abbrev pub decreases-parts : goal.decreases-parts
decreases-parts l = l.left
