use Rattle.ooo_meaning.proofs.Ends.{ends}
use Rattle.ooo_meaning.proofs.law.every_run_ends.Goals as goal

pub returns : goal.returns
returns g c = λ activate order limits s n between left. ends _ activate order limits n s between left
