use Rattle.std.proofs.Common.{◌≡◌, ◌++◌, drop}
use Rattle.ooo_checked.specs.Stats.{declarators_of}
use Rattle.ooo_checked.specs.Scopes.{left}
use Rattle.ooo_bodies.specs.Noting.{noted}
use Rattle.ooo_bodies.proofs.stats.declarators.Given as goal

abbrev pub invariant-parts : goal.invariant-parts
invariant-parts l = record {
  trees : l.all ++ (declarators_of l.kind l.context (drop l.e-index l.e-items) l.scopes).tree
      ≡ (declarators_of l.kind l.context l.e-items l.initial.scopes).tree;
  scope : (declarators_of l.kind l.context (drop l.e-index l.e-items) l.scopes).scope
      ≡ (declarators_of l.kind l.context l.e-items l.initial.scopes).scope;
  notes : noted l.notes (declarators_of l.kind l.context (drop l.e-index l.e-items) l.scopes).notes
      ≡ noted l.initial.notes (declarators_of l.kind l.context l.e-items l.initial.scopes).notes;
  outer : left l.scopes ≡ left l.initial.scopes;
}
