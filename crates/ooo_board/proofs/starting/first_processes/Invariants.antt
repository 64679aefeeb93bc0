use Rattle.std.proofs.Common.{◌+◌, ◌-◌, ◌≤◌, length, vec_len, vec_capacity}
use Rattle.ooo_code.specs.declared.limits.Limits.{Limits}
use Rattle.ooo_dispatch.specs.Least.{rules_of}
use Rattle.ooo_board.proofs.Beginning.{AreBegun}
use Rattle.ooo_board.proofs.starting.first_processes.Given as goal

abbrev pub invariant-loop-p : goal.invariant-loop-p
invariant-loop-p l = record {
  begun : (limits : Limits) → AreBegun (rules_of l.design limits l.tables) l.p l.made.items;
  room : vec_len l.made + (length l.processes - l.p) ≤ vec_capacity l.made;
}
