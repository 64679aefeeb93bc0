use Rattle.ooo_simple.specs.Parts.{ended_value}
use Rattle.ooo_grammar.specs.Statements.{for_test}
use Rattle.ooo_grammar.specs.Codes.{deeper}
use Rattle.ooo_grammar.specs.Steps.{deeper_gives}
use Rattle.ooo_simple.proofs.heads.read_for_test.Goals as goal

pub returns : goal.returns
unfolding for_test
returns c = deeper_gives c.args.limits c.inside.result (deeper ended_value) c.args.tokens.now c.read_ended_value_inside.result c.inside.ensures.levels c.inside.ensures.bound c.read_ended_value_inside.ensures
