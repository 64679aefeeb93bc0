use Rattle.ooo_board_checks.specs.Trials.{AreHeld}
use Rattle.ooo_board_checks.proofs.driving.drive.Given as goal

abbrev pub invariant-loop-step : goal.invariant-loop-step
invariant-loop-step l = AreHeld l.trial.board l.trial.given.items
