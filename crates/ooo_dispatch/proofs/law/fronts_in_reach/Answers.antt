use Rattle.ooo_schedules.specs.Model.{empty}
use Rattle.ooo_dispatch.specs.Least.{rules_of}
use Rattle.ooo_dispatch.specs.Steps.{nothing_done, replayed}
use Rattle.ooo_dispatch.proofs.Allowed.{are_rules, lawful_lists}
use Rattle.ooo_dispatch.proofs.Reached as reached
use Rattle.ooo_dispatch.proofs.law.fronts_in_reach.Goals as goal

pub returns : goal.returns
returns c = λ design limits t ready steps h.
    let rules = are_rules design limits t ready.tables in
    let r = rules_of design limits t in
    reached.fronts_in_reach r rules ready.sound c.does_as_said.ensures (c.tables_are_sound.ensures r rules ready.sound) ready.stop (replayed r (nothing_done r) steps).board
    (lawful_lists design limits t ready.tables ready.stop (nothing_done r) steps empty h)
