use Rattle.ooo_dispatch.proofs.Starts.{are_starting}
use Rattle.ooo_dispatch.proofs.law.processes_start.Goals as goal

pub returns : goal.returns
returns c = λ r rules some. are_starting r rules some
