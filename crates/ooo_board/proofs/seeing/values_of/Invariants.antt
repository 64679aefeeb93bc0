use Rattle.std.proofs.Common.{◌≡◌, ◌+◌, ◌-◌, ◌≤◌, take, vec_len, vec_capacity}
use Rattle.ooo_value.specs.declared.bound.ChannelKind.TheVariants as kind
use Rattle.ooo_channels.specs.Bank.{IsBankAfter}
use Rattle.ooo_channels.specs.Conditions.{HasChannel}
use Rattle.ooo_channels.specs.Cycles.{channel_in, readable}
use Rattle.ooo_channels.specs.Operations.{Operations}
use Rattle.ooo_board.proofs.seeing.values_of.Given as goal

abbrev pub invariant-loop-n : goal.invariant-loop-n
invariant-loop-n l = record {
  values : (ops : Operations) → IsBankAfter l.bank ops → HasChannel ops l.c kind.Fifo → l.values.items ≡ take l.n (readable (channel_in l.fn.at ops l.c));
  room : vec_len l.values + (l.count - l.n) ≤ vec_capacity l.values;
}
