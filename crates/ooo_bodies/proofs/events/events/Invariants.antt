use Rattle.std.proofs.Common.{◌≡◌, ◌++◌, drop}
use Rattle.ooo_checked.specs.Stats.{events_of}
use Rattle.ooo_checked.specs.Notes.{all_notes, trees}
use Rattle.ooo_bodies.specs.Noting.{noted}
use Rattle.ooo_bodies.proofs.events.events.Given as goal

abbrev pub invariant-parts : goal.invariant-parts
invariant-parts l = record {
  trees : l.all ++ trees (events_of l.in_sensitive (drop l.e-index l.e-items) l.scopes)
      ≡ trees (events_of l.in_sensitive l.e-items l.scopes);
  notes : noted l.notes (all_notes (events_of l.in_sensitive (drop l.e-index l.e-items) l.scopes))
      ≡ noted l.initial.notes (all_notes (events_of l.in_sensitive l.e-items l.scopes));
}
