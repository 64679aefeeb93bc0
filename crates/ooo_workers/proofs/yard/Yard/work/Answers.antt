use Rattle.ooo_workers.proofs.Turns.{goes_refl, goes_trans, worked_from}
use Rattle.ooo_workers.proofs.yard.Yard.work.Goals as goal

pub loop-init : goal.loop-init
loop-init g c = (goes_refl c.args.pass.now, c.requires.idle)

pub loop-preserved : goal.loop-preserved
loop-preserved g c = (goes_trans _ _ _ c.loop.invariant.0 c.in-Ok.ensures.0, c.in-Ok.ensures.1)

pub returns-in-Err : goal.returns-in-Err
returns-in-Err g c = worked_from _ _ _ c.in-Err.end c.loop.invariant.0 c.in-Err.ensures
