use Rattle.ooo_shapes.proofs.Alike.{runs_same}
use Rattle.ooo_shapes.proofs.law.same_runs.Goals as goal

pub returns : goal.returns
returns c = λ b limits n sound. runs_same b sound limits n
