use Rattle.std.proofs.Common.{◌≡◌, drop}
use Rattle.ooo_bodies.specs.Noting.{noted}
use Rattle.ooo_types.specs.Processes.{wait_notes}
use Rattle.ooo_types.proofs.processes.note_waits.Given as goal

abbrev pub invariant-parts : goal.invariant-parts
invariant-parts l = noted l.notes (wait_notes l.is_method l.may_wait (drop l.e-index l.e-items)) ≡ noted l.initial.notes (wait_notes l.is_method l.may_wait l.e-items)
