use Rattle.std.proofs.Common.{◌+◌, ◌-◌, ◌≤◌, vec_len, vec_capacity}
use Rattle.ooo_board.proofs.spares.Spares.make.Given as goal

abbrev pub invariant-loop-spare : goal.invariant-loop-spare
invariant-loop-spare l = vec_len l.of_processes + (l.processes - l._spare) ≤ vec_capacity l.of_processes
