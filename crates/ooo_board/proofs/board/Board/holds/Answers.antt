-- The fronts that are kept are the only ones.
use Rattle.std.proofs.Common.{subst}
use Rattle.ooo_fronts.specs.Holds.{AreCounts}
use Rattle.ooo_board.specs.Boards.{rules, state}
use Rattle.ooo_board.proofs.Chosen.{same_fronts}
use Rattle.ooo_board.proofs.Steps.{IsKept}
use Rattle.ooo_board.proofs.board.Board.holds.Goals as goal

pub returns : goal.returns
returns c = λ fronts are.
    let b = c.args.self.now in
    let has = subst (λ x. IsKept x c.self.inside.core) c.self.view_is c.self.invariant.has in
    let same = same_fronts (rules b) (state b).board c.self.inside.core.fronts.fronts fronts has.core.has_fronts are in
    rw (c.counts.ensures) (subst (λ l. AreCounts b.tables l c.self.inside.core.fronts.counts) same has.core.has_kept.counts)
