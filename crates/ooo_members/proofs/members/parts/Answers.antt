use Rattle.std.proofs.Common.{List}
use Rattle.ooo_syntax.specs.declared.module.Part.{Part}
use Rattle.ooo_checked.specs.Notes.{Checked}
use Rattle.ooo_bodies.specs.Parts.{trees_step, notes_step}
use Rattle.ooo_checked.specs.declared.module.CheckedPart.{CheckedPart}
use Rattle.ooo_members.specs.Members.{part_of}
use Rattle.ooo_members.proofs.members.parts.Goals as goal

pub parts-preserved : goal.parts-preserved
parts-preserved c =
    let xs : List Part = c.as_slice-e-items.result.now in
    let f : Part → Checked CheckedPart = λ p. part_of c.args.form.thing c.args.form.params p c.args.scopes.now in record {
      trees = trees_step f c.parts.all c.push.new.self xs c.parts.e-index c.e-item.result c.in-Ok.made
          c.parts-test.true c.e-item.is c.in-Ok.ensures.tree c.in-Ok-push.ensures.ok c.parts.invariant.trees;
      notes = notes_step f c.args.notes.now c.parts.notes c.part.new.notes xs c.parts.e-index c.e-item.result
          c.parts-test.true c.e-item.is c.in-Ok.ensures.notes c.parts.invariant.notes;
    }
