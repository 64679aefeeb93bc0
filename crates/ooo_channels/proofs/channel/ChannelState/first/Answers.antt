use Rattle.std.proofs.Common.{subst}
use Rattle.ooo_channels.specs.Calls.{channel_of}
use Rattle.ooo_channels.specs.Kept.{IsChannelAfter}
use Rattle.ooo_channels.proofs.channel.ChannelState.first.Goals as goal

pub returns-in-Signal : goal.returns-in-Signal
returns-in-Signal c = λ below x calls h later. c.first.ensures below x calls (subst (IsChannelAfter (channel_of c.args.kind) below x calls) c.in-Signal.is h) later

pub returns-in-Fifo : goal.returns-in-Fifo
returns-in-Fifo c = λ below x calls h later. c.first-in-Fifo.ensures below x calls (subst (IsChannelAfter (channel_of c.args.kind) below x calls) c.in-Fifo.is h) later
