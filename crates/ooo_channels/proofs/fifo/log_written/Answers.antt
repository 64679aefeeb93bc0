use Rattle.std.proofs.Common.{arith, ◌∙◌}
use Rattle.ooo_channels.proofs.Logging.{logged_more}
use Rattle.ooo_channels.proofs.fifo.log_written.Goals as goal

pub loop-n-preserved : goal.loop-n-preserved
loop-n-preserved c = record {
  items = logged_more _ c.args.stamp c.args.values.now.items c.args.first c.loop-n.n _ _ _ (omega arith) (omega arith) c.loop-n.invariant.items c.index.ensures c.push_reserved.ensures.items;
  capacity = c.push_reserved.ensures.capacity ∙ c.loop-n.invariant.capacity;
  len = omega (arith, c.push_reserved.ensures.len, c.loop-n.invariant.len);
}
