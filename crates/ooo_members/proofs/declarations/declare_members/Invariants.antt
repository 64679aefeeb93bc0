use Rattle.std.proofs.Common.{◌≡◌, drop}
use Rattle.ooo_checked.specs.Scopes.{left}
use Rattle.ooo_bodies.specs.Noting.{noted}
use Rattle.ooo_members.specs.Declarations.{members_names}
use Rattle.ooo_members.proofs.declarations.declare_members.Given as goal

abbrev pub invariant-parts : goal.invariant-parts
invariant-parts l = record {
  scope : (members_names l.outside (drop l.e-index l.members) l.scopes).scope
      ≡ (members_names l.outside l.members l.initial.scopes).scope;
  notes : noted l.notes (members_names l.outside (drop l.e-index l.members) l.scopes).notes
      ≡ noted l.initial.notes (members_names l.outside l.members l.initial.scopes).notes;
  outer : left l.scopes ≡ left l.initial.scopes;
}
