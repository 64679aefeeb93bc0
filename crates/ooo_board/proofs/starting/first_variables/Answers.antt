use Rattle.std.proofs.Common.{arith, replicate}
use Rattle.ooo_value.specs.declared.bound.BoundVariable.{BoundVariable}
use Rattle.ooo_board.proofs.Made.{all_made, one_more_at}
use Rattle.ooo_board.proofs.starting.first_variables.Goals as goal

pub push_reserved-requires : goal.push_reserved-requires
push_reserved-requires c = omega (arith, c.loop-x.invariant.room, c.loop-x-test.true)

pub loop-x-preserved : goal.loop-x-preserved
loop-x-preserved c = record {
  items = one_more_at (λ (x : BoundVariable). replicate x.length x.start) c.args.bound.now c.loop-x.x-index _ c.loop-x.made.items c.push_reserved.new.self.items c.in-Ok.made c.loop-x-test.true c.in-Ok.ensures c.push_reserved.ensures.items c.loop-x.invariant.items;
  room = omega (arith, c.loop-x.invariant.room, c.loop-x-test.true, c.push_reserved.ensures.len, c.push_reserved.ensures.capacity);
}

pub returns : goal.returns
returns c = all_made (λ (x : BoundVariable). replicate x.length x.start) c.args.bound.now c.loop-x.x-index c.loop-x.made.items c.loop-x-test.false c.loop-x.invariant.items
