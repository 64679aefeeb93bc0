use Rattle.ooo_grammar.specs.Steps.{deeper_gives}
use Rattle.ooo_units.specs.Parts.{members}
use Rattle.ooo_units.proofs.members.read_members_inside.Goals as goal

pub returns : goal.returns
returns c = deeper_gives c.args.limits c.inside.result members c.args.tokens.now _ c.inside.ensures.levels c.inside.ensures.bound c.read_members.ensures
