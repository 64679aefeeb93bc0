use Rattle.ooo_grammar.specs.Steps.{deeper_gives}
use Rattle.ooo_grammar.specs.Times.{events}
use Rattle.ooo_simple.proofs.events.read_events_inside.Goals as goal

pub returns : goal.returns
returns c = deeper_gives c.args.limits c.inside.result events c.args.tokens.now c.read_events.result c.inside.ensures.levels c.inside.ensures.bound c.read_events.ensures
