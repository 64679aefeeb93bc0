use Rattle.std.proofs.Common.{arith}
use Rattle.ooo_channels.proofs.Logging.{logged_more}
use Rattle.ooo_channels.proofs.fifo.append_written.Goals as goal

pub loop-n-preserved : goal.loop-n-preserved
loop-n-preserved c = logged_more _ c.args.stamp c.args.values.now.items c.args.first c.loop-n.n _ _ _ (omega arith) (omega arith) c.loop-n.invariant c.index.ensures c.in_ok-push.ensures.items
