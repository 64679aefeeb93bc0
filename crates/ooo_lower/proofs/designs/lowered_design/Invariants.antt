use Rattle.std.proofs.Common.{◌≡◌, ◌++◌, [], drop, length}
use Rattle.ooo_shapes.specs.Designs.{nodes_from, processes_from}
use Rattle.ooo_lower.proofs.designs.lowered_design.Given as goal

abbrev pub invariant-processes : goal.invariant-processes
invariant-processes l =
    (l.code.slots ≡ [])
    × (l.code.nodes ++ nodes_from l.known.model.now (length l.code.nodes) (drop l.process-index l.known.model.now.processes) ≡ nodes_from l.known.model.now 0 l.known.model.now.processes)
    × (l.processes ++ processes_from l.known.model.now (length l.code.nodes) (drop l.process-index l.known.model.now.processes) ≡ processes_from l.known.model.now 0 l.known.model.now.processes)
