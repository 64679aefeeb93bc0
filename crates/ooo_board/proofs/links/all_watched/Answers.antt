use Rattle.std.proofs.Common.{arith, subst, sym}
use Rattle.ooo_access.specs.Access.{IsInOrder}
use Rattle.ooo_board.specs.Links.{watched_from}
use Rattle.ooo_board.proofs.Made.{all_made, one_more}
use Rattle.ooo_board.proofs.links.all_watched.Goals as goal

pub watched_by-requires-clause-in_order : goal.watched_by-requires-clause-in_order
watched_by-requires-clause-in_order c = subst IsInOrder (sym c.one-item.is) (c.requires.in_order c.loop-one.one-index c.one-item.result c.loop-one-test.true)

pub push_reserved-requires : goal.push_reserved-requires
push_reserved-requires c = omega (arith, c.loop-one.invariant.room, c.loop-one-test.true)

pub loop-one-preserved : goal.loop-one-preserved
loop-one-preserved c = record {
  items = one_more (λ a. watched_from a 0 c.args.design.now.channels) c.args.access.now c.loop-one.one-index c.one-item.result c.loop-one.lists.items c.push_reserved.new.self.items c.in-Ok.made c.loop-one-test.true c.one-item.is c.in-Ok.ensures c.push_reserved.ensures.items c.loop-one.invariant.items;
  room = omega (arith, c.loop-one.invariant.room, c.loop-one-test.true, c.push_reserved.ensures.len, c.push_reserved.ensures.capacity);
}

pub returns : goal.returns
returns c = all_made (λ a. watched_from a 0 c.args.design.now.channels) c.args.access.now c.loop-one.one-index c.loop-one.lists.items c.loop-one-test.false c.loop-one.invariant.items
