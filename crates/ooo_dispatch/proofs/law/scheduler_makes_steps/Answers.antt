use Rattle.ooo_dispatch.specs.Rules.{tables}
use Rattle.ooo_dispatch.proofs.Beginning.{whole}
use Rattle.ooo_dispatch.proofs.law.scheduler_makes_steps.Goals as goal

pub returns : goal.returns
returns c = λ r result rules sound some is.
    let law = c.every_step.ensures (tables r) (c.tables_are_sound.ensures r rules sound) (c.processes_start.ensures r rules some) in
    let went = whole r rules sound some law (c.every_ending.ensures (tables r) (c.tables_are_sound.ensures r rules sound)) c.does_as_said.ensures c.reads_what_is_touched.ensures c.changes_what_is_touched.ensures is.cycles result is.is in
    (went.log, went.runs, went.made)
