-- The processes so far are closed.
use Rattle.std.proofs.Common.{◌≡◌, ℕ, ◌<◌, get_or}
use Rattle.ooo_code.specs.declared.design.Proc.{Proc}
use Rattle.ooo_segments.specs.Closed.{IsClosed}
use Rattle.ooo_tables_checks.proofs.closed.are_closed.Given as goal

abbrev pub invariant-loop-process : goal.invariant-loop-process
invariant-loop-process l = record {
  items : l.process-items ≡ l.design.processes;
  closed : (k : ℕ) (d : Proc) → k < l.process-index → IsClosed l.design (get_or l.design.processes k d);
}
