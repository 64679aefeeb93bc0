use Rattle.ooo_meaning.proofs.Alike.{whole_same}
use Rattle.ooo_meaning.proofs.law.same_runs.Goals as goal

pub returns : goal.returns
returns g c = λ f h order limits n s t alike same. whole_same _ _ _ f h alike order limits n s t same
