use Rattle.std.proofs.Common.{◌+◌, subst}
use Rattle.ooo_channels.specs.Kept.{IsChannelAfter}
use Rattle.ooo_channels.specs.Room.{HasRoom}
use Rattle.ooo_channels.proofs.Renewals.{take_next}
use Rattle.ooo_channels.proofs.channel.ChannelState.take.Goals as goal

pub returns-in-Fifo-clause-after : goal.returns-in-Fifo-clause-after
returns-in-Fifo-clause-after c = λ n x calls h order some.
    let is = subst (IsChannelAfter n c.args.below x calls) c.in-Fifo.is h in
    let made = c.take.ensures in
    take_next _ c.take.new.self n c.args.below x calls c.args.at is (made.cycle x n is.cycle some) made.events made.read made.takes made.puts (made.room 0 (subst (HasRoom 1) c.in-Fifo.is c.requires.room))

pub returns-in-Fifo-clause-room : goal.returns-in-Fifo-clause-room
returns-in-Fifo-clause-room c = λ n room. c.take.ensures.room n (subst (HasRoom (n + 1)) c.in-Fifo.is room)
