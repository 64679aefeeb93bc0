use Rattle.ooo_grammar.specs.Steps.{deeper_gives}
use Rattle.ooo_declarations.specs.Parts.{named_params}
use Rattle.ooo_declarations.proofs.params.read_named_params_inside.Goals as goal

pub returns : goal.returns
returns c = deeper_gives c.args.limits c.inside.result named_params c.args.tokens.now _ c.inside.ensures.levels c.inside.ensures.bound c.read_named_params.ensures
