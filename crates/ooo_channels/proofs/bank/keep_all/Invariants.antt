use Rattle.std.proofs.Common.{ℕ, List, All, take}
use Rattle.ooo_value.specs.declared.bound.BoundChannel.{BoundChannel}
use Rattle.ooo_channels.specs.Bank.{AreFirst, IsKeptIn}
use Rattle.ooo_channels.proofs.bank.keep_all.Given as goal

abbrev pub invariant-loop-kind : goal.invariant-loop-kind
invariant-loop-kind l = record {
  first : (design : List BoundChannel) (count : ℕ) → AreFirst design count l.initial.channels.items → AreFirst design count l.channels.items;
  present : All (IsKeptIn l.channels.items) (take l.kind-index l.events);
}
