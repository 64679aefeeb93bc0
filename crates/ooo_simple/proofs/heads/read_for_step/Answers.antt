use Rattle.ooo_simple.specs.Parts.{closed_step}
use Rattle.ooo_grammar.specs.Statements.{for_step}
use Rattle.ooo_grammar.specs.Steps.{deeper_gives}
use Rattle.ooo_simple.proofs.heads.read_for_step.Goals as goal

pub returns : goal.returns
unfolding for_step
returns c = deeper_gives c.args.limits c.inside.result closed_step c.args.tokens.now c.read_closed_step.result c.inside.ensures.levels c.inside.ensures.bound c.read_closed_step.ensures
