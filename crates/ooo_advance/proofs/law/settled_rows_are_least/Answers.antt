use Rattle.ooo_advance.proofs.SettledLemmas.{settled_is_least}
use Rattle.ooo_advance.proofs.law.settled_rows_are_least.Goals as goal

pub returns : goal.returns
returns c = settled_is_least
