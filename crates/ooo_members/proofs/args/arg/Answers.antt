use Rattle.std.proofs.Common.{refl}
use Rattle.ooo_members.proofs.args.arg.Goals as goal

pub returns-in-Ok : goal.returns-in-Ok
returns-in-Ok c = rw (c.in-Text.is) (record {
  tree = rw (c.in-Ok.ensures) refl;
  notes = refl;
})

pub returns-in-Ok-constant_time : goal.returns-in-Ok-constant_time
returns-in-Ok-constant_time c = rw (c.in-Time.is) (record {
  tree = rw (c.in-Ok-constant_time.ensures.tree, c.get.ensures) refl;
  notes = (rw c.get.ensures at c.in-Ok-constant_time.ensures.notes);
})

pub returns-in-Ok-constant : goal.returns-in-Ok-constant
returns-in-Ok-constant c = rw (c.in-Value.is) (record {
  tree = rw (c.in-Ok-constant.ensures.tree, c.get-in-Value.ensures) refl;
  notes = (rw c.get-in-Value.ensures at c.in-Ok-constant.ensures.notes);
})
