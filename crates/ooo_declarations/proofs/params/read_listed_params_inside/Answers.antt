use Rattle.ooo_grammar.specs.Steps.{deeper_gives}
use Rattle.ooo_declarations.specs.Parts.{listed_params}
use Rattle.ooo_declarations.proofs.params.read_listed_params_inside.Goals as goal

pub returns : goal.returns
returns c = deeper_gives c.args.limits c.inside.result listed_params c.args.tokens.now _ c.inside.ensures.levels c.inside.ensures.bound c.read_listed_params.ensures
