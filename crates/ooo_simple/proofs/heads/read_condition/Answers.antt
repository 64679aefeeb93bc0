use Rattle.ooo_grammar.specs.Statements.{condition, parens}
use Rattle.ooo_grammar.specs.Steps.{deeper_gives}
use Rattle.ooo_simple.proofs.heads.read_condition.Goals as goal

pub returns : goal.returns
unfolding condition
returns c = deeper_gives c.args.limits c.inside.result parens c.args.tokens.now c.read_parens.result c.inside.ensures.levels c.inside.ensures.bound c.read_parens.ensures
