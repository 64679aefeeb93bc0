use Rattle.std.proofs.Common.{subst}
use Rattle.ooo_board.specs.Boards.{rules, state}
use Rattle.ooo_board.proofs.States.{found_else, found_running}
use Rattle.ooo_board.proofs.Steps.{IsKept}
use Rattle.ooo_board.proofs.board.Board.running.Goals as goal

pub returns-in-Running : goal.returns-in-Running
returns-in-Running c =
    let b = c.args.self.now in
    let has = subst (λ x. IsKept x c.self.inside.core) c.self.view_is c.self.invariant.has in
    found_running (rules b) (state b) c.self.inside.core.states.items has.core.has_states c.args.p _ c.requires c.index.ensures c.in-Running.is

pub returns-in_default : goal.returns-in_default
returns-in_default c =
    let b = c.args.self.now in
    let has = subst (λ x. IsKept x c.self.inside.core) c.self.view_is c.self.invariant.has in
    found_else (rules b) (state b) c.self.inside.core.states.items has.core.has_states c.args.p _ c.requires c.index.ensures c.in_default.not-Running
