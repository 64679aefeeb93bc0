use Rattle.ooo_dispatch.specs.Rules.{tables}
use Rattle.ooo_dispatch.proofs.law.every_schedule.Goals as goal

pub returns : goal.returns
returns c = λ r rules sound some. c.every_schedule.ensures (tables r) (c.tables_are_sound.ensures r rules sound) (c.processes_start.ensures r rules some)
