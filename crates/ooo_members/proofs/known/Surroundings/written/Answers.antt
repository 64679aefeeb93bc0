use Rattle.std.proofs.Common.{◌∙◌}
use Rattle.ooo_members.proofs.known.Surroundings.written.Goals as goal

pub returns-clause-behind : goal.returns-clause-behind
returns-clause-behind c = (rw c.in-Ok-read_head.ensures.scope at c.in-Ok-inside.ensures.behind)

pub returns-clause-scope : goal.returns-clause-scope
returns-clause-scope c = c.leave.ensures ∙ c.in-Ok-read_head.ensures.outer
