use Rattle.ooo_channels.proofs.Agreeing.{deed_agrees}
use Rattle.ooo_channels.proofs.Ahead.{deed_timely}
use Rattle.ooo_channels.proofs.law.activates.Goals as goal

pub returns-clause-agrees : goal.returns-clause-agrees
returns-clause-agrees c = deed_agrees

pub returns-clause-timely : goal.returns-clause-timely
returns-clause-timely c = deed_timely
