use Rattle.ooo_schedules.specs.Model.{empty}
use Rattle.ooo_dispatch.specs.Least.{rules_of}
use Rattle.ooo_dispatch.specs.Steps.{nothing_done, replayed}
use Rattle.ooo_dispatch.proofs.Allowed.{are_rules, lawful_lists}
use Rattle.ooo_dispatch.proofs.Told.{fronts_are_told}
use Rattle.ooo_dispatch.proofs.law.fronts_are_told.Goals as goal

pub returns : goal.returns
returns c = λ design limits t ready steps h.
    let rules = are_rules design limits t ready.tables in
    fronts_are_told (rules_of design limits t) rules ready.sound c.does_as_said.ensures (c.tables_are_sound.ensures (rules_of design limits t) rules ready.sound)
    (c.every_schedule.ensures (rules_of design limits t) rules ready.sound ready.deltas) t.advance
    (replayed (rules_of design limits t) (nothing_done (rules_of design limits t)) steps)
    (lawful_lists design limits t ready.tables ready.stop (nothing_done (rules_of design limits t)) steps empty h)
