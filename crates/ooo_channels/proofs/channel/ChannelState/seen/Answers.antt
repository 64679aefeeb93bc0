use Rattle.std.proofs.Common.{subst}
use Rattle.ooo_channels.specs.Kept.{ChannelShows}
use Rattle.ooo_channels.proofs.channel.ChannelState.seen.Goals as goal

pub returns-in-Signal-clause-since : goal.returns-in-Signal-clause-since
returns-in-Signal-clause-since c = λ below was h later. c.seen.ensures.since below was (subst (ChannelShows below was) c.in-Signal.is h) later
