use Rattle.std.proofs.Common.{◌≡◌, ◌<◌, length, ◌+◌, get_or, set, subst, arith, ap, sym, ◌∙◌}
use Rattle.std.proofs.lemmas.List.{get_or_default}
use Rattle.ooo_interp.specs.Carrying.{Carried}
use Rattle.ooo_board.proofs.Moving.{IsMoving, moving_ends, moving_on}
use Rattle.ooo_board.proofs.carrying.move_out.Goals as goal

pub loop-i-preserved : goal.loop-i-preserved
loop-i-preserved c =
    let owned = c.loop-i.owned.items in
    let i = c.loop-i.i in
    let one : Carried = c.index.result.now in
    let two : Carried = c.index_mut-in-loop-i.result.now in
    let n = c.loop-i.invariant.count in
    let lt : i < length owned = omega arith in
    let same : two ≡ one = c.index_mut-in-loop-i.ensures.value ∙ get_or_default owned i two one lt ∙ sym c.index.ensures in
    let held : c.swap.new.y ≡ get_or c.loop-i.variables.items one.0 c.swap.new.y = c.swap.ensures.y_after ∙ c.index_mut.ensures.value ∙ ap (get_or c.loop-i.variables.items one.0) (sym c.swap.ensures.y_after) in
    let cells : c.swap.new.x ≡ one.1 = c.swap.ensures.x_after ∙ ap (λ (x : Carried). x.1) same in
    let next = moving_on c.args.variables.now.items c.args.owned.now.items i c.loop-i.variables.items owned one lt c.index.ensures c.loop-i.invariant c.swap.new.y c.swap.new.x held cells in
    subst (λ (x : Carried). IsMoving c.args.variables.now.items c.args.owned.now.items (i + 1) (set c.loop-i.variables.items one.0 c.swap.new.x) (set owned i (x.0, c.swap.new.y))) (sym same) next

pub returns : goal.returns
returns c = moving_ends c.args.variables.now.items c.args.owned.now.items c.loop-i.i c.loop-i.variables.items c.loop-i.owned.items (omega arith) c.loop-i.invariant
