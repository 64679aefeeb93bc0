use Rattle.std.proofs.Common.{◌≡◌, drop}
use Rattle.ooo_bodies.specs.Noting.{noted}
use Rattle.ooo_types.specs.Processes.{trigger_notes}
use Rattle.ooo_types.proofs.processes.note_triggers.Given as goal

abbrev pub invariant-parts : goal.invariant-parts
invariant-parts l = noted l.notes (trigger_notes l.is_method (drop l.e-index l.e-items)) ≡ noted l.initial.notes (trigger_notes l.is_method l.e-items)
