use Rattle.std.proofs.Common.{◌≡◌, ◌++◌, drop, length}
use Rattle.ooo_shapes.specs.Shapes.{argument_nodes}
use Rattle.ooo_lower.proofs.calls.put_arguments.Given as goal

abbrev pub invariant-args-2 : goal.invariant-args-2
invariant-args-2 l =
    (l.code.slots ≡ l.initial.code.slots)
    × (l.code.nodes ++ argument_nodes l.spot.around l.u l.spot.line l.n (drop l.n l.kinds) (drop l.n l.args) (length l.code.nodes) ≡ l.initial.code.nodes ++ argument_nodes l.spot.around l.u l.spot.line 0 l.kinds l.args (length l.initial.code.nodes))
