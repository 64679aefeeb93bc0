use Rattle.std.proofs.Common.{◌≡◌, ◌+◌, drop}
use Rattle.ooo_bodies.specs.Noting.{noted}
use Rattle.ooo_types.specs.Running.{calls_from}
use Rattle.ooo_types.proofs.processes.note_calls.Given as goal

abbrev pub invariant-parts : goal.invariant-parts
invariant-parts l = record {
  notes : noted l.notes (calls_from l.calls l.place (drop l.e-index l.e-items))
      ≡ noted l.initial.notes (calls_from l.calls l.from l.e-items);
  place : l.place ≡ l.from + l.e-index;
}
