use Rattle.ooo_schedules.specs.Model.{empty}
use Rattle.ooo_dispatch.specs.Least.{rules_of}
use Rattle.ooo_dispatch.specs.Steps.{nothing_done, replayed}
use Rattle.ooo_dispatch.proofs.Allowed.{are_rules, lawful_lists}
use Rattle.ooo_dispatch.proofs.ReadOff as proof
use Rattle.ooo_dispatch.proofs.law.reports_are_read_off.Goals as goal

pub returns : goal.returns
returns c = λ design limits t ready steps h.
    let r = rules_of design limits t in
    let rules = are_rules design limits t ready.tables in
    proof.reports_are_read_off r t.advance rules ready.sound c.does_as_said.ensures (c.tables_are_sound.ensures r rules ready.sound)
    (c.every_schedule.ensures r rules ready.sound ready.deltas)
    (replayed r (nothing_done r) steps)
    (lawful_lists design limits t ready.tables ready.stop (nothing_done r) steps empty h)
    (proof.below_limit r t.advance steps h)
