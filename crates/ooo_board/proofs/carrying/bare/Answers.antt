use Rattle.std.proofs.Common.{[], ℕ, List, ap, arith, get_or}
use Rattle.ooo_value.specs.declared.values.Value.{Value}
use Rattle.ooo_interp.specs.Carrying.{Carried}
use Rattle.ooo_board.proofs.Made.{all_made, one_more_at}
use Rattle.ooo_board.proofs.carrying.bare.Goals as goal

pub push_reserved-requires : goal.push_reserved-requires
push_reserved-requires c = omega (arith, c.loop-x.invariant.room, c.loop-x-test.true)

pub loop-x-preserved : goal.loop-x-preserved
loop-x-preserved c =
    let x : ℕ = get_or c.args.numbers.now c.loop-x.x-index 0 in
    record {
      items = one_more_at {A = ℕ} {B = Carried} (λ x. (x, [])) c.args.numbers.now c.loop-x.x-index 0 c.loop-x.owned.items c.push_reserved.new.self.items (x, c.new.result) c.loop-x-test.true (ap (λ (cells : List Value). (x, cells)) c.new.ensures)
          c.push_reserved.ensures.items c.loop-x.invariant.items;
      room = omega (arith, c.loop-x.invariant.room, c.loop-x-test.true, c.push_reserved.ensures.len, c.push_reserved.ensures.capacity);
    }

pub returns : goal.returns
returns c = all_made {A = ℕ} {B = Carried} (λ x. (x, [])) c.args.numbers.now c.loop-x.x-index c.loop-x.owned.items c.loop-x-test.false c.loop-x.invariant.items
