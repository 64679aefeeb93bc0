use Rattle.std.proofs.Common.{◌+◌, ◌*◌, []}
use Rattle.ooo_dispatch.specs.Rules.{tables}
use Rattle.ooo_dispatch.proofs.law.boards_go_on.Goals as goal

pub returns-clause-never_stuck : goal.returns-clause-never_stuck
returns-clause-never_stuck c = λ r b rules sound some lawful quiet.
    (c.every_board.ensures (tables r) (c.tables_are_sound.ensures r rules sound) (c.processes_start.ensures r rules some)).never_stuck b lawful quiet

pub returns-clause-not_for_ever : goal.returns-clause-not_for_ever
returns-clause-not_for_ever c = λ r b rules sound some lawful p.
    (c.every_board.ensures (tables r) (c.tables_are_sound.ensures r rules sound) (c.processes_start.ensures r rules some)).not_for_ever b lawful p

pub returns-clause-comes_to_end : goal.returns-clause-comes_to_end
returns-clause-comes_to_end c = λ r rules sound some.
    let runs = c.every_design_runs.ensures r.design r.limits some in
    let steps = c.scheduler_makes_steps.ensures r runs.0 rules sound some (record { cycles = (r.limits.stop.0 + 1) * (r.limits.deltas + 1); is = runs.1 }) in
    let board = c.every_board.ensures (tables r) (c.tables_are_sound.ensures r rules sound) (c.processes_start.ensures r rules some) in
    let run = board.run steps.0 steps.1 in
    (record { log = steps.0; out = [] }, run.0, run.1)
