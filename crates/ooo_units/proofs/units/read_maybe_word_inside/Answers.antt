use Rattle.ooo_grammar.specs.Steps.{deeper_gives}
use Rattle.ooo_units.specs.Parts.{maybe_word}
use Rattle.ooo_units.proofs.units.read_maybe_word_inside.Goals as goal

pub returns : goal.returns
returns c = deeper_gives c.args.limits c.inside.result maybe_word c.args.tokens.now _ c.inside.ensures.levels c.inside.ensures.bound c.read_maybe_word.ensures
