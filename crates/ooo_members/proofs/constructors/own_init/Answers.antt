use Rattle.std.proofs.Common.{refl}
use Rattle.ooo_members.proofs.constructors.own_init.Goals as goal

pub returns-clause-tree : goal.returns-clause-tree
returns-clause-tree c = rw (c.in-Ok-copy_word.ensures, c.in-Ok.ensures) refl

pub returns-clause-notes : goal.returns-clause-notes
returns-clause-notes c = (rw c.as_slice.ensures at c.in_ok-note_own_name.ensures)
