use Rattle.std.proofs.Common.{refl}
use Rattle.ooo_members.proofs.members.field_form.Goals as goal

pub returns-in-Ok : goal.returns-in-Ok
returns-in-Ok c = rw (c.in-Length.is) (record {
  tree = rw (c.in-Ok.ensures.tree, c.get.ensures) refl;
  notes = (rw c.get.ensures at c.in-Ok.ensures.notes);
})

pub returns-in-Ok-constant : goal.returns-in-Ok-constant
returns-in-Ok-constant c = rw (c.in-Value.is) (record {
  tree = rw (c.in-Ok-constant.ensures.tree, c.get-in-Value.ensures) refl;
  notes = (rw c.get-in-Value.ensures at c.in-Ok-constant.ensures.notes);
})
