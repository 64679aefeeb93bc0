use Rattle.std.proofs.Common.{sym, subst, None}
use Rattle.std.specs.Prelude.{slice_set}
use Rattle.ooo_board.specs.Boards.{Shown}
use Rattle.ooo_board_checks.specs.Trials.{AreHeld}
use Rattle.ooo_board_checks.proofs.Keeping.{done_is_given, held_dispatched, held_less, held_more}
use Rattle.ooo_board_checks.proofs.trial.Trial.dispatch.Goals as goal

pub returns-in_err-job : goal.returns-in_err-job
returns-in_err-job c =
    subst (λ (b : Shown). AreHeld b (slice_set c.args.self.now.given.items c.args.p None)) (sym c.in_err-job.ensures.refused)
    (held_less c.args.self.now.board c.args.p c.args.self.now.given.items c.requires)

pub returns-in_err-done : goal.returns-in_err-done
returns-in_err-done c =
    held_dispatched c.args.self.now.board c.dispatch.new.self c.args.p c.args.self.now.given.items c.in_ok-job.ensures.step c.requires

pub returns : goal.returns
returns c =
    let board = c.args.self.now.board in
    let given = c.args.self.now.given.items in
    held_more c.dispatch.new.self c.args.p c.in_ok-done.done (slice_set given c.args.p None)
    (held_dispatched board c.dispatch.new.self c.args.p given c.in_ok-job.ensures.step c.requires)
    (done_is_given board c.dispatch.new.self c.args.p c.in_ok-job.job c.in_ok-done.done c.in_ok-job.ensures.job
    (record { of = c.in_ok-done.ensures.of; does = c.in_ok-done.ensures.does }) c.in_ok-job.ensures.gives)
