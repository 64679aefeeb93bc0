use Rattle.std.proofs.Common.{◌≤◌, length}
use Rattle.ooo_channels.specs.Bank.{AreFirst}
use Rattle.ooo_channels.proofs.bank.first_channels.Given as goal

abbrev pub invariant-loop-channel : goal.invariant-loop-channel
invariant-loop-channel l = record {
  first : AreFirst l.channels l.channel-index l.made.items;
  within : l.channel-index ≤ length l.channels;
}
