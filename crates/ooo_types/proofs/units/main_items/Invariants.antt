use Rattle.std.proofs.Common.{◌≡◌, ◌++◌, drop}
use Rattle.ooo_bodies.specs.Noting.{noted}
use Rattle.ooo_types.specs.Units.{main_items_of}
use Rattle.ooo_types.proofs.units.main_items.Given as goal

abbrev pub invariant-parts : goal.invariant-parts
invariant-parts l = record {
  trees : l.all ++ (main_items_of l.modules l.outside (drop l.e-index l.e-items) l.scopes).tree
      ≡ (main_items_of l.modules l.outside l.e-items l.initial.scopes).tree;
  scope : (main_items_of l.modules l.outside (drop l.e-index l.e-items) l.scopes).scope
      ≡ (main_items_of l.modules l.outside l.e-items l.initial.scopes).scope;
  notes : noted l.notes (main_items_of l.modules l.outside (drop l.e-index l.e-items) l.scopes).notes
      ≡ noted l.initial.notes (main_items_of l.modules l.outside l.e-items l.initial.scopes).notes;
}
