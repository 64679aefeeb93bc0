use Rattle.ooo_grammar.specs.Statements.{after_do}
use Rattle.ooo_grammar.specs.Steps.{deeper_gives}
use Rattle.ooo_statements.specs.Parts.{closed_do}
use Rattle.ooo_statements.proofs.statements.read_after_do.Goals as goal

pub returns : goal.returns
unfolding after_do
returns c = deeper_gives c.args.limits c.inside.result (closed_do c.args.at c.args.inner) c.args.tokens.now c.read_closed_do.result c.inside.ensures.levels c.inside.ensures.bound c.read_closed_do.ensures
