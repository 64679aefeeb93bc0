use Rattle.ooo_channels.proofs.Starts.{signal_starts, signal_shown, fifo_starts}
use Rattle.ooo_channels.proofs.channel.ChannelState.new.Goals as goal

pub returns-in-Signal-clause-first : goal.returns-in-Signal-clause-first
returns-in-Signal-clause-first c = λ n below. signal_starts n below c.args.channel c.new.result c.in-Signal.is c.new.ensures.value c.new.ensures.fresh c.new.ensures.unchanged c.new.ensures.stamp c.new.ensures.history c.new.ensures.changes c.new.ensures.rises c.new.ensures.falls c.new.ensures.room

pub returns-in-Signal-clause-shows : goal.returns-in-Signal-clause-shows
returns-in-Signal-clause-shows c = λ below. signal_shown 0 below c.args.channel c.new.result (returns-in-Signal-clause-first c 0 below) c.new.ensures.past

pub returns-in-Fifo-clause-first : goal.returns-in-Fifo-clause-first
returns-in-Fifo-clause-first c = λ n below. fifo_starts n below c.args.channel c.new-in-Fifo.result c.in-Fifo.is c.new-in-Fifo.ensures.size c.new-in-Fifo.ensures.values c.new-in-Fifo.ensures.counts c.new-in-Fifo.ensures.stamp c.new-in-Fifo.ensures.history c.new-in-Fifo.ensures.puts c.new-in-Fifo.ensures.takes c.new-in-Fifo.ensures.room
