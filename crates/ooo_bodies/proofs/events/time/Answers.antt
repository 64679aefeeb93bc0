use Rattle.std.proofs.Common.{ap, refl}
use Rattle.ooo_checked.specs.declared.stat.CheckedTime.TheVariants as time
use Rattle.ooo_bodies.proofs.events.time.Goals as goal

pub returns-in-Zero-clause-tree : goal.returns-in-Zero-clause-tree
returns-in-Zero-clause-tree c = rw c.in-Zero.is refl

pub returns-in-Zero-clause-notes : goal.returns-in-Zero-clause-notes
returns-in-Zero-clause-notes c = rw c.in-Zero.is refl

pub returns-in-Ok-clause-tree : goal.returns-in-Ok-clause-tree
returns-in-Ok-clause-tree c = rw c.in-Made.is (ap (λ e. time.Made c.in-Made.at e c.in-Made.scale) c.in-Ok.ensures.tree)

pub returns-in-Ok-clause-notes : goal.returns-in-Ok-clause-notes
returns-in-Ok-clause-notes c = rw c.in-Made.is c.in-Ok.ensures.notes

pub returns-in-Ok-expr-clause-tree : goal.returns-in-Ok-expr-clause-tree
returns-in-Ok-expr-clause-tree c = rw c.in-Amount.is (ap (λ e. time.Amount e c.in-Amount.scale) c.in-Ok-expr.ensures.tree)

pub returns-in-Ok-expr-clause-notes : goal.returns-in-Ok-expr-clause-notes
returns-in-Ok-expr-clause-notes c = rw c.in-Amount.is c.in-Ok-expr.ensures.notes
