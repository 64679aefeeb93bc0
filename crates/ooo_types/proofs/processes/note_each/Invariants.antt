use Rattle.std.proofs.Common.{◌≡◌, ◌+◌, drop, length}
use Rattle.ooo_bodies.specs.Noting.{noted}
use Rattle.ooo_types.specs.Processes.{all_edges}
use Rattle.ooo_types.specs.Running.{functions_from}
use Rattle.ooo_types.proofs.processes.note_each.Given as goal

abbrev pub invariant-parts : goal.invariant-parts
invariant-parts l = record {
  notes : noted l.notes (functions_from l.calls l.sofar.registered l.place (drop l.e-index l.e-items))
      ≡ noted l.initial.notes (functions_from l.calls l.sofar.registered 0 l.e-items);
  rest : l.place + length (all_edges (drop l.e-index l.e-items)) ≡ l.count;
}
