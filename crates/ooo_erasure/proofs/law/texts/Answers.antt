use Rattle.ooo_erasure.proofs.Units.{unit_covered}
use Rattle.ooo_erasure.proofs.law.texts.Goals as goal

pub returns : goal.returns
returns c = unit_covered
