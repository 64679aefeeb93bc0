use Rattle.std.proofs.Common.{◌≡◌, None, replicate}
use Rattle.ooo_board_checks.proofs.trial.nothing_given.Given as goal

abbrev pub invariant-loop-process : goal.invariant-loop-process
invariant-loop-process l = l.given.items ≡ replicate l._process None
