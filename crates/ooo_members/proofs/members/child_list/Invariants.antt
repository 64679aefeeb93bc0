use Rattle.std.proofs.Common.{◌≡◌, ◌++◌, drop, map}
use Rattle.ooo_syntax.specs.declared.module.Part.{Part}
use Rattle.ooo_checked.specs.Notes.{Checked, all_notes, trees}
use Rattle.ooo_bodies.specs.Noting.{noted}
use Rattle.ooo_checked.specs.declared.module.CheckedPart.{CheckedPart}
use Rattle.ooo_members.specs.Members.{child_of}
use Rattle.ooo_members.proofs.members.child_list.Given as goal

abbrev pub invariant-parts : goal.invariant-parts
invariant-parts l =
    let f : Part → Checked CheckedPart = λ p. child_of l.initialised l.form.thing l.form.params p l.scopes in record {
      trees : l.all ++ trees (map f (drop l.e-index l.e-items)) ≡ trees (map f l.e-items);
      notes : noted l.notes (all_notes (map f (drop l.e-index l.e-items))) ≡ noted l.initial.notes (all_notes (map f l.e-items));
    }
