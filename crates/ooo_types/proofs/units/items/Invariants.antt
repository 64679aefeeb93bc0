use Rattle.std.proofs.Common.{◌≡◌, ◌++◌, length, reverse}
use Rattle.ooo_bodies.specs.Noting.{noted}
use Rattle.ooo_types.specs.Units.{items_of}
use Rattle.ooo_types.proofs.units.items.Given as goal

abbrev pub invariant-parts : goal.invariant-parts
invariant-parts l = record {
  trees : l.all ++ (items_of (reverse l.rest) l.file).tree ≡ (items_of l.fn.items l.initial.file).tree;
  behind : (items_of (reverse l.rest) l.file).behind ≡ (items_of l.fn.items l.initial.file).behind;
  notes : noted l.notes (items_of (reverse l.rest) l.file).notes
      ≡ noted l.initial.notes (items_of l.fn.items l.initial.file).notes;
}

abbrev pub decreases-parts : goal.decreases-parts
decreases-parts l = length l.rest
