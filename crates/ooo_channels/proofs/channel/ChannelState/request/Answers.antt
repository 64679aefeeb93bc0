use Rattle.std.proofs.Common.{◌+◌, subst}
use Rattle.ooo_channels.specs.Kept.{IsChannelAfter, ChannelShows}
use Rattle.ooo_channels.specs.Room.{HasRoom}
use Rattle.ooo_channels.proofs.Renewals.{signal_next}
use Rattle.ooo_channels.proofs.channel.ChannelState.request.Goals as goal

pub returns-in-Signal-clause-after : goal.returns-in-Signal-clause-after
returns-in-Signal-clause-after c = λ n x calls h order.
    let is = subst (IsChannelAfter n c.args.below x calls) c.in-Signal.is h in
    let made = c.request.ensures in
    signal_next _ c.request.new.self n c.args.below x calls c.args.at c.args.value is (made.cycle x n is.cycle) made.events made.changes made.rises made.falls (made.room 0 (subst (HasRoom 1) c.in-Signal.is c.requires.room))

pub returns-in-Signal-clause-room : goal.returns-in-Signal-clause-room
returns-in-Signal-clause-room c = λ n room. c.request.ensures.room n (subst (HasRoom (n + 1)) c.in-Signal.is room)

pub returns-in-Signal-clause-shows : goal.returns-in-Signal-clause-shows
returns-in-Signal-clause-shows c = λ n x calls was next h continued shows.
    let is = subst (IsChannelAfter n c.args.below x calls) c.in-Signal.is h in
    c.request.ensures.shows was next x n is.cycle continued (subst (ChannelShows c.args.below was) c.in-Signal.is shows)
