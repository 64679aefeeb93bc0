use Rattle.std.proofs.Common.{◌≡◌, ◌++◌, drop}
use Rattle.ooo_types.specs.Processes.{all_edges}
use Rattle.ooo_types.proofs.processes.all_edges.Given as goal

abbrev pub invariant-parts : goal.invariant-parts
invariant-parts l = l.edges ++ all_edges (drop l.e-index l.e-items) ≡ all_edges l.e-items
