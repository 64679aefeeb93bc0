-- The design has a sequential run.
use Rattle.std.proofs.Common.{◌+◌, ◌*◌}
use Rattle.ooo_sim.proofs.Reports.{shown_all}
use Rattle.ooo_sim.proofs.workers.run_of.Goals as goal

pub returns : goal.returns
returns c =
    let b = c.args.board.now in
    let some = c.every_design_runs.ensures b.design b.limits c.requires.some_deltas in
    shown_all b.design b.limits some.0 (record { cycles = (b.limits.stop.0 + 1) * (b.limits.deltas + 1); is = some.1 })
    c.finish.result c.finish.ensures
