use Rattle.ooo_simple.specs.Parts.{ended_start}
use Rattle.ooo_grammar.specs.Steps.{deeper_gives}
use Rattle.ooo_simple.proofs.heads.read_ended_start_inside.Goals as goal

pub returns : goal.returns
returns c = deeper_gives c.args.limits c.inside.result ended_start c.args.tokens.now c.read_ended_start.result c.inside.ensures.levels c.inside.ensures.bound c.read_ended_start.ensures
