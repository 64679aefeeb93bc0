-- What is given is the first by the rule, and where nothing is, the process may be dispatched.
use Rattle.std.proofs.Common.{◌≡◌, ◌↔◌, ◌∙◌, None, subst, sym}
use Rattle.ooo_fronts.specs.Holds.{IsFirstHold, held}
use Rattle.ooo_board.specs.Boards.{some_of, state}
use Rattle.ooo_board.proofs.Chosen.{is_holder}
use Rattle.ooo_board.proofs.Steps.{IsKept, none_of}
use Rattle.ooo_board.proofs.board.Board.holder.Goals as goal

pub returns : goal.returns
returns c =
    let b = c.args.self.now in
    let has = subst (λ x. IsKept x c.self.inside.core) c.self.view_is c.self.invariant.has in
    let lost = subst (λ x. c.self.inside.lost ≡ some_of (state x).abandoned) c.self.view_is c.self.invariant.is_lost in
    let none = none_of (state b).abandoned (sym lost ∙ c.if-self.false) in
    let fronts = c.self.inside.core.fronts.fronts in
    let first = subst (λ x. IsFirstHold x.tables fronts c.args.p c.first_hold.result) c.self.view_is c.first_hold.ensures.first in
    let nothing = subst (λ x. (c.first_hold.result ≡ None) ↔ (held x.tables fronts c.args.p ≡ 0)) c.self.view_is c.first_hold.ensures.none in
    is_holder b c.self.inside.core has c.laws.ensures none c.args.p (c.could_run.ensures.0 c.if-not-could_run.false) c.first_hold.result first nothing
