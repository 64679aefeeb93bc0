use Rattle.ooo_meaning.proofs.OneRun.{one_run}
use Rattle.ooo_meaning.proofs.law.one_run.Goals as goal

pub returns : goal.returns
returns g c = λ activate order limits s r q a b. one_run _ activate order limits s r q a b
