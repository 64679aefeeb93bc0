use Rattle.std.proofs.Common.{◌≡◌, ◌∙◌, ℕ, List, ap, arith, get_or}
use Rattle.std.specs.Prelude.{[], slice_index_or}
use Rattle.std.proofs.lemmas.List.{get_or_default}
use Rattle.ooo_value.specs.declared.values.Value.{Value}
use Rattle.ooo_interp.specs.Carrying.{Carried}
use Rattle.ooo_board.proofs.Made.{all_made, one_more_at}
use Rattle.ooo_board.proofs.carrying.copies.Goals as goal

pub push_reserved-requires : goal.push_reserved-requires
push_reserved-requires c = omega (arith, c.loop-x.invariant.room, c.loop-x-test.true)

pub loop-x-preserved : goal.loop-x-preserved
loop-x-preserved c =
    let x : ℕ = get_or c.args.numbers.now c.loop-x.x-index 0 in
    let held : List Value = c.index-variables-x.result in
    let cells : c.in-Ok.made ≡ slice_index_or c.args.variables.now x [] =
    c.in-Ok.ensures ∙ c.as_slice.ensures ∙ c.index-variables-x.is ∙ get_or_default c.args.variables.now x held [] (c.requires c.loop-x.x-index 0 c.loop-x-test.true) in
    record {
      items = one_more_at {A = ℕ} {B = Carried} (λ x. (x, slice_index_or c.args.variables.now x [])) c.args.numbers.now c.loop-x.x-index 0 c.loop-x.copied.items c.push_reserved.new.self.items (x, c.in-Ok.made) c.loop-x-test.true (ap (λ (cells : List Value). (x, cells)) cells)
          c.push_reserved.ensures.items c.loop-x.invariant.items;
      room = omega (arith, c.loop-x.invariant.room, c.loop-x-test.true, c.push_reserved.ensures.len, c.push_reserved.ensures.capacity);
    }

pub returns : goal.returns
returns c = all_made {A = ℕ} {B = Carried} (λ x. (x, slice_index_or c.args.variables.now x [])) c.args.numbers.now c.loop-x.x-index c.loop-x.copied.items c.loop-x-test.false c.loop-x.invariant.items
