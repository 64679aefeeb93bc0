use Rattle.std.proofs.Common.{◌≡◌, ◌++◌, length, reverse}
use Rattle.ooo_bodies.specs.Noting.{noted}
use Rattle.ooo_members.specs.Members.{functions_of, members_of}
use Rattle.ooo_members.proofs.known.Surroundings.members.Given as goal

abbrev pub invariant-parts : goal.invariant-parts
invariant-parts l = record {
  trees : l.all ++ (members_of l.self.modules.now l.self.module_name.now l.self.initialised.now l.initial.scopes (reverse l.rest) l.sofar).tree
      ≡ (members_of l.self.modules.now l.self.module_name.now l.self.initialised.now l.initial.scopes l.fn.members l.initial.sofar).tree;
  behind : (members_of l.self.modules.now l.self.module_name.now l.self.initialised.now l.initial.scopes (reverse l.rest) l.sofar).behind
      ≡ (members_of l.self.modules.now l.self.module_name.now l.self.initialised.now l.initial.scopes l.fn.members l.initial.sofar).behind;
  notes : noted l.notes (members_of l.self.modules.now l.self.module_name.now l.self.initialised.now l.initial.scopes (reverse l.rest) l.sofar).notes
      ≡ noted l.initial.notes (members_of l.self.modules.now l.self.module_name.now l.self.initialised.now l.initial.scopes l.fn.members l.initial.sofar).notes;
  scope : l.scopes ≡ l.initial.scopes;
  functions : l.functions ++ functions_of (reverse l.rest) l.initial.scopes
      ≡ l.initial.functions ++ functions_of l.fn.members l.initial.scopes;
}

abbrev pub decreases-parts : goal.decreases-parts
decreases-parts l = length l.rest
