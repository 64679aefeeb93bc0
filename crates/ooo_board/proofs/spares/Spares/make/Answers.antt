use Rattle.std.proofs.Common.{arith}
use Rattle.ooo_board.proofs.spares.Spares.make.Goals as goal

pub push_reserved-requires : goal.push_reserved-requires
push_reserved-requires c = omega (arith, c.loop-spare.invariant, c.loop-spare-test.true)

pub loop-spare-preserved : goal.loop-spare-preserved
loop-spare-preserved c = omega (arith, c.loop-spare.invariant, c.loop-spare-test.true, c.push_reserved.ensures.len, c.push_reserved.ensures.capacity)
