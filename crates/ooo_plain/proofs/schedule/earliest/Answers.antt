use Rattle.std.proofs.Common.{ap, ◌∙◌}
use Rattle.ooo_meaning.specs.World.{sooner}
use Rattle.ooo_plain.proofs.schedule.earliest.Goals as goal

pub returns : goal.returns
returns c = λ ops b by first firsts. c.earlier.ensures ∙ ap (sooner c.args.timeout) (c.first_of.ensures ops b by first firsts)
