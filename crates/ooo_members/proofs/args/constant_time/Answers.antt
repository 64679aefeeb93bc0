use Rattle.std.proofs.Common.{refl}
use Rattle.ooo_members.proofs.args.constant_time.Goals as goal

pub returns-in-Ok : goal.returns-in-Ok
returns-in-Ok c = rw (c.in-Made.is) (record {
  tree = rw (c.in-Ok.ensures.tree) refl;
  notes = c.in-Ok.ensures.notes;
})

pub returns-in-Ok-constant : goal.returns-in-Ok-constant
returns-in-Ok-constant c = rw (c.in-Amount.is) (record {
  tree = rw (c.in-Ok-constant.ensures.tree) refl;
  notes = c.in-Ok-constant.ensures.notes;
})
