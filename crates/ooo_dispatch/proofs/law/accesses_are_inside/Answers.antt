use Rattle.ooo_dispatch.proofs.Inside.{inside}
use Rattle.ooo_dispatch.proofs.law.accesses_are_inside.Goals as goal

pub returns : goal.returns
returns c = λ r rules sound. inside r rules sound
