use Rattle.std.proofs.Common.{List}
use Rattle.ooo_syntax.specs.declared.module.Arg.{Arg}
use Rattle.ooo_checked.specs.Notes.{Checked}
use Rattle.ooo_bodies.specs.Parts.{trees_step, notes_step}
use Rattle.ooo_checked.specs.declared.module.CheckedArg.{CheckedArg}
use Rattle.ooo_members.specs.Args.{arg_of}
use Rattle.ooo_members.proofs.args.args.Goals as goal

pub parts-preserved : goal.parts-preserved
parts-preserved c =
    let xs : List Arg = c.as_slice-e-items.result.now in
    let f : Arg → Checked CheckedArg = λ x. arg_of x c.args.scopes.now in record {
      trees = trees_step f c.parts.all c.push.new.self xs c.parts.e-index c.e-item.result c.in-Ok.made
          c.parts-test.true c.e-item.is c.in-Ok.ensures.tree c.in-Ok-push.ensures.ok c.parts.invariant.trees;
      notes = notes_step f c.args.notes.now c.parts.notes c.arg.new.notes xs c.parts.e-index c.e-item.result
          c.parts-test.true c.e-item.is c.in-Ok.ensures.notes c.parts.invariant.notes;
    }
