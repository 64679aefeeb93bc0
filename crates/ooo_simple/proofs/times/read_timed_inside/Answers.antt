use Rattle.ooo_grammar.specs.Steps.{deeper_gives}
use Rattle.ooo_grammar.specs.Times.{timed}
use Rattle.ooo_simple.proofs.times.read_timed_inside.Goals as goal

pub returns : goal.returns
returns c = deeper_gives c.args.limits c.inside.result timed c.args.tokens.now c.read_timed.result c.inside.ensures.levels c.inside.ensures.bound c.read_timed.ensures
