use Rattle.std.proofs.Common.{◌≡◌, ◌+◌, drop, length}
use Rattle.ooo_shapes.specs.Sizes.{processes_size, sizes_within}
use Rattle.ooo_layout.proofs.sizes.spend_processes.Given as goal

abbrev pub invariant-processes : goal.invariant-processes
invariant-processes l =
    let sizes = sizes_within (length l.functions) l.functions in
    l.rest + processes_size sizes l.processes ≡ l.left + processes_size sizes (drop l.process-index l.processes)
