use Rattle.ooo_code.proofs.Ending.{enough}
use Rattle.ooo_code.proofs.law.enough_nodes.Goals as goal

pub returns : goal.returns
returns c = λ nodes r counted m n d ranked le. enough r nodes ranked counted m n d le
