use Rattle.ooo_value.specs.declared.bound.ChannelKind.TheVariants as channel
use Rattle.ooo_channels_checks.proofs.Trials.{event_there}
use Rattle.ooo_channels_checks.proofs.channels.signal_answers.Goals as goal

pub first-requires : goal.first-requires
first-requires c = (c.requires.ops, c.requires.after, event_there channel.Signal c.args.bank.now c.args.last c.requires c.in-First.event c.if-event-lt4.true)
