use Rattle.std.proofs.Common.{◌+◌, ◌-◌, ◌≤◌, vec_len, vec_capacity}
use Rattle.ooo_channels.specs.Operations.{Operations}
use Rattle.ooo_board.specs.Finishing.{AreHistoriesBy, IsAskedFor}
use Rattle.ooo_board.proofs.finishing.histories.Given as goal

abbrev pub invariant-loop-c : goal.invariant-loop-c
invariant-loop-c l = record {
  histories : (ops : Operations) → IsAskedFor l.bank ops → AreHistoriesBy ops l.before l.c l.made.items;
  room : vec_len l.made + (l.channels - l.c) ≤ vec_capacity l.made;
}
