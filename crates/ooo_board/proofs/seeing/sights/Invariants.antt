use Rattle.std.proofs.Common.{◌≡◌, ◌+◌, ◌-◌, ◌≤◌, length, take, vec_len, vec_capacity}
use Rattle.ooo_channels.specs.Operations.{Operations}
use Rattle.ooo_board.specs.Seeing.{IsAskedAt, sights_of}
use Rattle.ooo_board.proofs.seeing.sights.Given as goal

abbrev pub invariant-loop-channel : goal.invariant-loop-channel
invariant-loop-channel l = record {
  seen : (ops : Operations) → IsAskedAt l.design l.bank l.fn.at ops → l.seen.items ≡ sights_of l.fn.at ops l.design.channels (take l.channel-index l.watched);
  room : vec_len l.seen + (length l.watched - l.channel-index) ≤ vec_capacity l.seen;
}
