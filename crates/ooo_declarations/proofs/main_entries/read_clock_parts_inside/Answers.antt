use Rattle.ooo_grammar.specs.Steps.{deeper_gives}
use Rattle.ooo_declarations.specs.Parts.{clock_parts}
use Rattle.ooo_declarations.proofs.main_entries.read_clock_parts_inside.Goals as goal

pub returns : goal.returns
returns c = deeper_gives c.args.limits c.inside.result (clock_parts c.args.first c.args.word) c.args.tokens.now _ c.inside.ensures.levels c.inside.ensures.bound c.read_clock_parts.ensures
