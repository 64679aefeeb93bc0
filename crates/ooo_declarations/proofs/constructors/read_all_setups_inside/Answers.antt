use Rattle.ooo_grammar.specs.Steps.{deeper_gives}
use Rattle.ooo_declarations.specs.Parts.{all_setups}
use Rattle.ooo_declarations.proofs.constructors.read_all_setups_inside.Goals as goal

pub returns : goal.returns
returns c = deeper_gives c.args.limits c.inside.result all_setups c.args.tokens.now _ c.inside.ensures.levels c.inside.ensures.bound c.read_all_setups.ensures
