use Rattle.ooo_meaning.proofs.Kept.{keeps_place}
use Rattle.ooo_meaning.proofs.law.keeps_place.Goals as goal

pub returns : goal.returns
returns g c = λ activate order s p idle. keeps_place _ activate p order s idle
