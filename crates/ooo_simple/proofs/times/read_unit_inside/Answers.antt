use Rattle.ooo_grammar.specs.Steps.{deeper_gives}
use Rattle.ooo_grammar.specs.Times.{unit_of_time}
use Rattle.ooo_simple.proofs.times.read_unit_inside.Goals as goal

pub returns : goal.returns
returns c = deeper_gives c.args.limits c.inside.result unit_of_time c.args.tokens.now c.read_unit_of_time.result c.inside.ensures.levels c.inside.ensures.bound c.read_unit_of_time.ensures
