use Rattle.ooo_dispatch.specs.Least.{rules_of}
use Rattle.ooo_dispatch.proofs.Allowed.{are_rules}
use Rattle.ooo_dispatch.proofs.Committing as committing
use Rattle.ooo_dispatch.proofs.law.jobs_may_commit.Goals as goal

pub returns : goal.returns
returns c = λ design limits t ready.
    let rules = are_rules design limits t ready.tables in
    committing.jobs_may_commit design limits t ready c.does_as_said.ensures c.own_steps_are_seen.ensures (c.tables_are_sound.ensures (rules_of design limits t) rules ready.sound)
    (c.every_schedule.ensures (rules_of design limits t) rules ready.sound ready.deltas) (c.jobs_read_board.ensures design limits t ready)
