use Rattle.ooo_schedules.specs.Model.{commit, dispatch}
use Rattle.ooo_dispatch.proofs.law.goes_on.Goals as goal

pub returns-clause-dispatched : goal.returns-clause-dispatched
returns-clause-dispatched c = λ r b p f lawful allowed. dispatch p f lawful allowed

pub returns-clause-committed : goal.returns-clause-committed
returns-clause-committed c = λ r b j lawful out. commit j lawful out
