use Rattle.std.proofs.Common.{◌≡◌, drop}
use Rattle.ooo_checked.specs.Scopes.{left}
use Rattle.ooo_bodies.specs.Noting.{noted}
use Rattle.ooo_members.specs.Declarations.{words_of}
use Rattle.ooo_members.proofs.declarations.words.Given as goal

abbrev pub invariant-parts : goal.invariant-parts
invariant-parts l = record {
  scope : (words_of l.outside l.thing (drop l.e-index l.e-items) l.scopes).scope
      ≡ (words_of l.outside l.thing l.e-items l.initial.scopes).scope;
  notes : noted l.notes (words_of l.outside l.thing (drop l.e-index l.e-items) l.scopes).notes
      ≡ noted l.initial.notes (words_of l.outside l.thing l.e-items l.initial.scopes).notes;
  outer : left l.scopes ≡ left l.initial.scopes;
}
