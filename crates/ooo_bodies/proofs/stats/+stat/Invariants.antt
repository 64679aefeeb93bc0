use Rattle.std.proofs.Common.{◌≡◌, ◌++◌, drop}
use Rattle.ooo_checked.specs.Stats.{stats_of}
use Rattle.ooo_checked.specs.Scopes.{left}
use Rattle.ooo_bodies.specs.Noting.{noted}
use Rattle.ooo_bodies.proofs.stats.+stat.Given as goal

abbrev pub invariant-stats-parts : goal.invariant-stats-parts
invariant-stats-parts l = record {
  trees : l.all ++ (stats_of (drop l.e-index l.e-items) l.context l.scopes).tree
      ≡ (stats_of l.e-items l.context l.initial.scopes).tree;
  scope : (stats_of (drop l.e-index l.e-items) l.context l.scopes).scope
      ≡ (stats_of l.e-items l.context l.initial.scopes).scope;
  notes : noted l.notes (stats_of (drop l.e-index l.e-items) l.context l.scopes).notes
      ≡ noted l.initial.notes (stats_of l.e-items l.context l.initial.scopes).notes;
  outer : left l.scopes ≡ left l.initial.scopes;
}
