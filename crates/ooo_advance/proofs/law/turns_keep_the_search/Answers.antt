use Rattle.ooo_advance.proofs.TurnLemmas.{turn}
use Rattle.ooo_advance.proofs.law.turns_keep_the_search.Goals as goal

pub returns : goal.returns
returns c = turn
