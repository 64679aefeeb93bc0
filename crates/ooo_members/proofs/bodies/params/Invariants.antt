use Rattle.std.proofs.Common.{◌≡◌, ◌++◌, drop}
use Rattle.ooo_checked.specs.Scopes.{left}
use Rattle.ooo_bodies.specs.Noting.{noted}
use Rattle.ooo_members.specs.Bodies.{params_of}
use Rattle.ooo_members.proofs.bodies.params.Given as goal

abbrev pub invariant-parts : goal.invariant-parts
invariant-parts l = record {
  trees : l.all ++ (params_of l.outside (drop l.e-index l.e-items) l.scopes).tree
      ≡ (params_of l.outside l.e-items l.initial.scopes).tree;
  scope : (params_of l.outside (drop l.e-index l.e-items) l.scopes).scope
      ≡ (params_of l.outside l.e-items l.initial.scopes).scope;
  notes : noted l.notes (params_of l.outside (drop l.e-index l.e-items) l.scopes).notes
      ≡ noted l.initial.notes (params_of l.outside l.e-items l.initial.scopes).notes;
  outer : left l.scopes ≡ left l.initial.scopes;
}
