use Rattle.std.proofs.Common.{◌∙◌, ap, refl}
use Rattle.ooo_checked.specs.Scopes.{left}
use Rattle.ooo_members.proofs.known.Surroundings.named.Goals as goal

pub returns-clause-tree : goal.returns-clause-tree
returns-clause-tree c = rw (
  c.in-Ok.ensures,
  c.in-Ok-inside.ensures.inits,
  c.in-Ok-inside.ensures.setups,
  c.in_ok-names.ensures,
  c.in-Ok-enter.ensures.ok,
) refl

pub returns-clause-behind : goal.returns-clause-behind
returns-clause-behind c = (rw c.in-Ok-enter.ensures.ok at c.in-Ok-inside.ensures.behind)

pub returns-clause-notes : goal.returns-clause-notes
returns-clause-notes c = (rw (c.in_ok-names.ensures, c.in-Ok-enter.ensures.ok) at c.in-Ok-inside.ensures.notes)

pub returns-clause-scope : goal.returns-clause-scope
returns-clause-scope c = c.leave.ensures ∙ ap left c.in-Ok-enter.ensures.ok
