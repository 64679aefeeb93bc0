use Rattle.std.proofs.Common.{◌≡◌, ◌+◌, ◌*◌, drop}
use Rattle.ooo_walk.specs.Instances.{child_of, inside_of, member_of}
use Rattle.ooo_walk.specs.Plans.{filed, viewed}
use Rattle.ooo_walk.specs.States.{in_order}
use Rattle.ooo_walk.proofs.state.Walk.+instances.Given as goal

abbrev pub decreases-inside : goal.decreases-inside
decreases-inside l = 9 * l.levels

abbrev pub decreases-instance_of : goal.decreases-instance_of
decreases-instance_of l = 9 * l.levels + 1

abbrev pub decreases-walked : goal.decreases-walked
decreases-walked l = 9 * l.levels + 7

abbrev pub decreases-instance : goal.decreases-instance
decreases-instance l = 9 * l.levels + 2

abbrev pub decreases-child : goal.decreases-child
decreases-child l = 9 * l.levels + 3

abbrev pub decreases-children : goal.decreases-children
decreases-children l = 9 * l.levels + 4

abbrev pub decreases-member : goal.decreases-member
decreases-member l = 9 * l.levels + 5

abbrev pub decreases-members : goal.decreases-members
decreases-members l = 9 * l.levels + 6

abbrev pub invariant-children-parts : goal.invariant-children-parts
invariant-children-parts l =
    in_order (child_of (inside_of l.levels (filed l.modules)) (filed l.modules) (viewed l.view) l.number)
    (drop l.e-index l.e-items) l.self
    ≡ in_order (child_of (inside_of l.levels (filed l.modules)) (filed l.modules) (viewed l.view) l.number) l.e-items l.initial.self

abbrev pub invariant-members-parts : goal.invariant-members-parts
invariant-members-parts l =
    in_order (member_of (inside_of l.levels (filed l.modules)) (filed l.modules) (viewed l.view))
    (drop l.e-index l.view.members.now) l.self
    ≡ in_order (member_of (inside_of l.levels (filed l.modules)) (filed l.modules) (viewed l.view)) l.view.members.now
    l.initial.self
