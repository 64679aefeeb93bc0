use Rattle.ooo_grammar.specs.Combinators.{optional}
use Rattle.ooo_grammar.specs.Statements.{simple}
use Rattle.ooo_grammar.specs.Steps.{deeper_gives}
use Rattle.ooo_simple.proofs.heads.read_optional_simple_inside.Goals as goal

pub returns : goal.returns
returns c = deeper_gives c.args.limits c.inside.result (optional simple) c.args.tokens.now c.read_optional_simple.result c.inside.ensures.levels c.inside.ensures.bound c.read_optional_simple.ensures
