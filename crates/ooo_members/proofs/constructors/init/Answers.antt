use Rattle.std.proofs.Common.{◌∙◌, sym, refl}
use Rattle.ooo_checked.specs.Notes.{all_notes}
use Rattle.ooo_bodies.specs.Parts.{noted_two}
use Rattle.ooo_members.specs.Args.{args_of}
use Rattle.ooo_members.specs.Constructors.{member_init_notes}
use Rattle.ooo_members.proofs.constructors.init.Goals as goal

pub returns-then-is_own_name-clause-tree : goal.returns-then-is_own_name-clause-tree
returns-then-is_own_name-clause-tree c = rw (sym c.is_own_name.ensures ∙ c.if-is_own_name.true) c.own_init.ensures.tree

pub returns-then-is_own_name-clause-notes : goal.returns-then-is_own_name-clause-notes
returns-then-is_own_name-clause-notes c = rw (sym c.is_own_name.ensures ∙ c.if-is_own_name.true) c.own_init.ensures.notes

pub returns-clause-tree : goal.returns-clause-tree
returns-clause-tree c =
    rw (sym c.is_own_name.ensures ∙ c.if-is_own_name.false, c.in-Ok-copy_word.ensures, c.in-Ok.ensures.trees) refl

pub returns-clause-notes : goal.returns-clause-notes
returns-clause-notes c =
    rw (sym c.is_own_name.ensures ∙ c.if-is_own_name.false)
    (c.in-Ok.ensures.notes
    ∙ noted_two c.args.notes.now c.note_member_init.new.notes (member_init_notes c.args.modules.now c.args.init.now c.args.denotes.thing)
    (all_notes (args_of c.args.init.now.args c.args.scopes.now)) c.note_member_init.ensures)
