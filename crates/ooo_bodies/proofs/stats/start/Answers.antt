use Rattle.std.proofs.Common.{ap, refl}
use Rattle.ooo_checked.specs.declared.stat.CheckedStart.TheVariants as start
use Rattle.ooo_bodies.proofs.stats.start.Goals as goal

pub returns-in-Ok-clause-tree : goal.returns-in-Ok-clause-tree
returns-in-Ok-clause-tree c = rw c.in-Local.is (ap start.Local c.in-Ok.ensures.tree)

pub returns-in-Ok-clause-scope : goal.returns-in-Ok-clause-scope
returns-in-Ok-clause-scope c = rw c.in-Local.is c.in-Ok.ensures.scope

pub returns-in-Ok-clause-notes : goal.returns-in-Ok-clause-notes
returns-in-Ok-clause-notes c = rw c.in-Local.is c.in-Ok.ensures.notes

pub returns-in-Ok-clause-outer : goal.returns-in-Ok-clause-outer
returns-in-Ok-clause-outer c = c.in-Ok.ensures.outer

pub returns-in-Ok-simple_stat-clause-tree : goal.returns-in-Ok-simple_stat-clause-tree
returns-in-Ok-simple_stat-clause-tree c = rw c.in-Simple.is (ap start.Simple c.in-Ok-simple_stat.ensures.tree)

pub returns-in-Ok-simple_stat-clause-scope : goal.returns-in-Ok-simple_stat-clause-scope
returns-in-Ok-simple_stat-clause-scope c = rw c.in-Simple.is refl

pub returns-in-Ok-simple_stat-clause-notes : goal.returns-in-Ok-simple_stat-clause-notes
returns-in-Ok-simple_stat-clause-notes c = rw c.in-Simple.is c.in-Ok-simple_stat.ensures.notes

pub returns-in-Ok-simple_stat-clause-outer : goal.returns-in-Ok-simple_stat-clause-outer
returns-in-Ok-simple_stat-clause-outer c = refl
