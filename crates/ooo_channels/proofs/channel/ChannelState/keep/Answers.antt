use Rattle.std.proofs.Common.{[], subst}
use Rattle.ooo_channels.specs.Kept.{IsChannelAfter, ChannelShows}
use Rattle.ooo_channels.proofs.channel.ChannelState.keep.Goals as goal

pub returns-in-Signal-clause-after : goal.returns-in-Signal-clause-after
returns-in-Signal-clause-after c = λ n below x h. c.keep.ensures.after n below x (subst (IsChannelAfter n below x (λ k. [])) c.in-Signal.is h)

pub returns-in-Fifo-clause-after : goal.returns-in-Fifo-clause-after
returns-in-Fifo-clause-after c = λ n below x h. c.keep-in-Fifo.ensures.after n below x (subst (IsChannelAfter n below x (λ k. [])) c.in-Fifo.is h)

pub returns-in-Signal-clause-shows : goal.returns-in-Signal-clause-shows
returns-in-Signal-clause-shows c = λ below was h. c.keep.ensures.shows below was (subst (ChannelShows below was) c.in-Signal.is h)
