use Rattle.ooo_dispatch.proofs.Allowed.{allowed}
use Rattle.ooo_dispatch.proofs.law.least_allows.Goals as goal

pub returns : goal.returns
returns c = λ design limits t b p f are fits may. allowed design limits t are fits b p f may
