-- It may where none was abandoned, and the choice says so.
use Rattle.std.proofs.Common.{◌≡◌, subst, sym, ◌∙◌}
use Rattle.ooo_board.specs.Boards.{rules, some_of, state}
use Rattle.ooo_board.proofs.Steps.{none_of}
use Rattle.ooo_board.proofs.board.Board.allowed.Goals as goal

pub returns-then-not-self : goal.returns-then-not-self
returns-then-not-self c =
    let b = c.args.self.now in
    let lost = subst (λ x. c.self.inside.lost ≡ some_of (state x).abandoned) c.self.view_is c.self.invariant.is_lost in
    let may = c.may_run.ensures (rules b) b.tables.advance (state b).board c.choice.ensures.of in
    (λ t. let m = may.0 t in (none_of (state b).abandoned (sym lost ∙ c.if-not-self.true), m.0, m.1), λ h. may.1 (h.1, h.2))
