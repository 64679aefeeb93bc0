use Rattle.std.proofs.Common.{◌≡◌, ◌++◌, drop, length}
use Rattle.ooo_checked.specs.Notes.{all_notes, trees}
use Rattle.ooo_bodies.specs.Noting.{noted}
use Rattle.ooo_members.specs.Constructors.{inits_with}
use Rattle.ooo_members.proofs.constructors.inits.Given as goal

abbrev pub invariant-parts : goal.invariant-parts
invariant-parts l = record {
  trees : l.all ++ trees (inits_with l.modules (drop l.e-index l.denotations) (drop l.e-index l.e-items) l.scopes)
      ≡ trees (inits_with l.modules l.denotations l.e-items l.scopes);
  notes : noted l.notes (all_notes (inits_with l.modules (drop l.e-index l.denotations) (drop l.e-index l.e-items) l.scopes))
      ≡ noted l.initial.notes (all_notes (inits_with l.modules l.denotations l.e-items l.scopes));
  place : l.i ≡ l.e-index;
  long : length l.denotations ≡ length l.e-items;
}
