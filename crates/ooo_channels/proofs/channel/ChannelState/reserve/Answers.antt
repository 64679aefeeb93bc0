use Rattle.std.proofs.Common.{subst}
use Rattle.ooo_channels.specs.Kept.{IsChannelAfter, ChannelShows}
use Rattle.ooo_channels.specs.Room.{HasRoom}
use Rattle.ooo_channels.proofs.channel.ChannelState.reserve.Goals as goal

pub returns-in-Signal-clause-kept : goal.returns-in-Signal-clause-kept
returns-in-Signal-clause-kept c = λ m room. c.reserve.ensures.kept m (subst (HasRoom m) c.in-Signal.is room)

pub returns-in-Signal-clause-after : goal.returns-in-Signal-clause-after
returns-in-Signal-clause-after c = λ n below x calls h. c.reserve.ensures.after n below x calls (subst (IsChannelAfter n below x calls) c.in-Signal.is h)

pub returns-in-Fifo-clause-kept : goal.returns-in-Fifo-clause-kept
returns-in-Fifo-clause-kept c = λ m room. c.reserve-in-Fifo.ensures.kept m (subst (HasRoom m) c.in-Fifo.is room)

pub returns-in-Fifo-clause-after : goal.returns-in-Fifo-clause-after
returns-in-Fifo-clause-after c = λ n below x calls h. c.reserve-in-Fifo.ensures.after n below x calls (subst (IsChannelAfter n below x calls) c.in-Fifo.is h)

pub returns-in-Signal-clause-shows : goal.returns-in-Signal-clause-shows
returns-in-Signal-clause-shows c = λ below was h. c.reserve.ensures.shows below was (subst (ChannelShows below was) c.in-Signal.is h)
