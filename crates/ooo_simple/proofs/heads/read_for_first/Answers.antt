use Rattle.ooo_simple.specs.Parts.{opened_start}
use Rattle.ooo_grammar.specs.Statements.{for_first}
use Rattle.ooo_grammar.specs.Steps.{deeper_gives}
use Rattle.ooo_simple.proofs.heads.read_for_first.Goals as goal

pub returns : goal.returns
unfolding for_first
returns c = deeper_gives c.args.limits c.inside.result opened_start c.args.tokens.now c.read_opened_start.result c.inside.ensures.levels c.inside.ensures.bound c.read_opened_start.ensures
