use Rattle.std.proofs.Common.{◌≡◌, ◌++◌, drop}
use Rattle.ooo_bodies.specs.Noting.{noted}
use Rattle.ooo_members.specs.Constructors.{setups_of}
use Rattle.ooo_members.proofs.setups.setups.Given as goal

abbrev pub invariant-parts : goal.invariant-parts
invariant-parts l = record {
  trees : l.all ++ (setups_of l.modules l.scopes (drop l.e-index l.e-items) l.sofar).tree
      ≡ (setups_of l.modules l.scopes l.e-items l.initial.sofar).tree;
  behind : (setups_of l.modules l.scopes (drop l.e-index l.e-items) l.sofar).behind
      ≡ (setups_of l.modules l.scopes l.e-items l.initial.sofar).behind;
  notes : noted l.notes (setups_of l.modules l.scopes (drop l.e-index l.e-items) l.sofar).notes
      ≡ noted l.initial.notes (setups_of l.modules l.scopes l.e-items l.initial.sofar).notes;
}
