use Rattle.ooo_board.proofs.Parts.{given}
use Rattle.ooo_board.proofs.law.jobs_give.Goals as goal

pub returns : goal.returns
returns c = λ r j job done own wide is of does. given r j job is wide done own of does
