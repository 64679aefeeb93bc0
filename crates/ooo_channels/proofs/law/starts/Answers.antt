use Rattle.ooo_channels.proofs.Beginning.{first_agrees, first_timely, started}
use Rattle.ooo_channels.proofs.law.starts.Goals as goal

pub returns-clause-agrees : goal.returns-clause-agrees
returns-clause-agrees c = λ design. (first_agrees design, first_timely design)

pub returns-clause-initializes : goal.returns-clause-initializes
returns-clause-initializes c = λ design bounds. started design bounds
