use Rattle.std.proofs.Common.{◌∙◌, refl}
use Rattle.ooo_checked.specs.Stats.{is_compound, target_of, value_of}
use Rattle.ooo_bodies.specs.Parts.{noted_two}
use Rattle.ooo_bodies.proofs.simple_stats.assign.Goals as goal

pub returns-clause-tree : goal.returns-clause-tree
returns-clause-tree c = rw (c.in-Ok.ensures.tree, c.in-Ok-value.ensures.tree, c.is_compound-is_compound.ensures) refl

pub returns-clause-notes : goal.returns-clause-notes
returns-clause-notes c =
    (rw c.is_compound-is_compound.ensures at c.in-Ok-value.ensures.notes)
    ∙ noted_two c.args.notes.now c.target.new.notes (target_of (is_compound c.args.op) c.args.to.now c.args.scopes.now).notes
    (value_of (is_compound c.args.op) c.args.e.now c.args.scopes.now).notes (rw c.is_compound-is_compound.ensures at c.in-Ok.ensures.notes)
