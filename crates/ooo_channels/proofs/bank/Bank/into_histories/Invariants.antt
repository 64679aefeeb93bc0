use Rattle.std.proofs.Common.{◌≡◌, ◌++◌, length}
use Rattle.std.specs.Vec.Iter.{into_iter_items, into_iter_len}
use Rattle.ooo_channels.specs.Bank.{AreHistories}
use Rattle.ooo_channels.proofs.bank.Bank.into_histories.Given as goal

abbrev pub invariant-loop-channel : goal.invariant-loop-channel
invariant-loop-channel l = record {
  rest : l.yielded ++ into_iter_items l.channel-iterator ≡ l.fn.self.channels;
  left : into_iter_len l.channel-iterator ≡ length (into_iter_items l.channel-iterator);
  made : AreHistories l.fn.self l.at (length l.yielded) l.made.items;
}
