use Rattle.ooo_meaning.proofs.Endings.{runs_have_histories}
use Rattle.ooo_meaning.proofs.law.histories.Goals as goal

pub returns : goal.returns
returns c = runs_have_histories
