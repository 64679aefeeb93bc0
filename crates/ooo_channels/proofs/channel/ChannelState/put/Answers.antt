use Rattle.std.proofs.Common.{◌+◌, subst}
use Rattle.ooo_channels.specs.Kept.{IsChannelAfter}
use Rattle.ooo_channels.specs.Room.{HasRoom}
use Rattle.ooo_channels.proofs.Renewals.{put_next}
use Rattle.ooo_channels.proofs.channel.ChannelState.put.Goals as goal

pub returns-in-Fifo-clause-after : goal.returns-in-Fifo-clause-after
returns-in-Fifo-clause-after c = λ n x calls h order free.
    let is = subst (IsChannelAfter n c.args.below x calls) c.in-Fifo.is h in
    let made = c.put.ensures in
    put_next _ c.put.new.self n c.args.below x calls c.args.at c.args.value is (made.cycle x n is.cycle free) made.events made.written made.puts made.takes (made.room 0 (subst (HasRoom 1) c.in-Fifo.is c.requires.room))

pub returns-in-Fifo-clause-room : goal.returns-in-Fifo-clause-room
returns-in-Fifo-clause-room c = λ n room. c.put.ensures.room n (subst (HasRoom (n + 1)) c.in-Fifo.is room)
