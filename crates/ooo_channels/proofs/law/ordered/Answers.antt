use Rattle.ooo_channels.proofs.Ordered.{none_ordered, effects_ordered}
use Rattle.ooo_channels.proofs.law.ordered.Goals as goal

pub returns-clause-starts : goal.returns-clause-starts
returns-clause-starts c = λ design n. none_ordered design.channels design.events n

pub returns-clause-goes_on : goal.returns-clause-goes_on
returns-clause-goes_on c = λ at ops fs n. effects_ordered ops at fs n
