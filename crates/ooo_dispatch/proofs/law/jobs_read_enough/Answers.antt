use Rattle.ooo_dispatch.proofs.Enough.{agree, reads_enough}
use Rattle.ooo_dispatch.proofs.law.jobs_read_enough.Goals as goal

pub returns-clause-shows : goal.returns-clause-shows
returns-clause-shows c = λ r p g process segment s last ys rules sound. reads_enough r rules sound c.does_as_said.ensures p g process segment s last ys

pub returns-clause-does : goal.returns-clause-does
returns-clause-does c = λ r p process frame ys v w is e a b. c.reads_what_is_touched.ensures r.design r.limits.statements p process frame v w is (agree r process frame.entry ys v w e a b)
