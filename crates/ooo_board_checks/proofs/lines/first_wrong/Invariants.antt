use Rattle.ooo_board_checks.specs.Trials.{AreHeld}
use Rattle.ooo_board_checks.proofs.lines.first_wrong.Given as goal

abbrev pub invariant-loop-n : goal.invariant-loop-n
invariant-loop-n l = AreHeld l.trial.board l.trial.given.items
