use Rattle.ooo_grammar.specs.Steps.{deeper_gives}
use Rattle.ooo_simple.specs.Parts.{ended_value}
use Rattle.ooo_simple.proofs.heads.read_ended_value_inside.Goals as goal

pub returns : goal.returns
returns c = deeper_gives c.args.limits c.inside.result ended_value c.args.tokens.now c.read_ended_value.result c.inside.ensures.levels c.inside.ensures.bound c.read_ended_value.ensures
