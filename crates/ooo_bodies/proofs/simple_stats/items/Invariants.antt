use Rattle.std.proofs.Common.{◌≡◌, ◌++◌, drop}
use Rattle.ooo_checked.specs.Stats.{items_of}
use Rattle.ooo_checked.specs.Notes.{all_notes, trees}
use Rattle.ooo_bodies.specs.Noting.{noted}
use Rattle.ooo_bodies.proofs.simple_stats.items.Given as goal

abbrev pub invariant-parts : goal.invariant-parts
invariant-parts l = record {
  trees : l.all ++ trees (items_of (drop l.e-index l.e-items) l.scopes)
      ≡ trees (items_of l.e-items l.scopes);
  notes : noted l.notes (all_notes (items_of (drop l.e-index l.e-items) l.scopes))
      ≡ noted l.initial.notes (all_notes (items_of l.e-items l.scopes));
}
