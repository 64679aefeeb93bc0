use Rattle.ooo_meaning.proofs.Endings.{endings_are_named}
use Rattle.ooo_meaning.proofs.law.endings.Goals as goal

pub returns : goal.returns
returns c = endings_are_named
