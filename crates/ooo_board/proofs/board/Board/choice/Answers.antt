-- What it is chosen from is told of the board.
use Rattle.std.proofs.Common.{refl, subst}
use Rattle.ooo_board.proofs.Chosen.{is_choice}
use Rattle.ooo_board.proofs.Steps.{IsKept}
use Rattle.ooo_board.proofs.board.Board.choice.Goals as goal

pub returns-clause-of : goal.returns-clause-of
returns-clause-of c =
    let b = c.args.self.now in
    let has = subst (λ x. IsKept x c.self.inside.core) c.self.view_is c.self.invariant.has in
    is_choice b c.self.inside.core has c.laws.ensures _ c.as_slice.ensures.value c.fronts.ensures c.counts.ensures refl
