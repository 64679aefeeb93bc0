use Rattle.ooo_grammar.specs.Steps.{deeper_gives}
use Rattle.ooo_grammar.specs.Times.{named_time}
use Rattle.ooo_simple.proofs.times.read_named_time_inside.Goals as goal

pub returns : goal.returns
returns c = deeper_gives c.args.limits c.inside.result named_time c.args.tokens.now c.read_named_time.result c.inside.ensures.levels c.inside.ensures.bound c.read_named_time.ensures
