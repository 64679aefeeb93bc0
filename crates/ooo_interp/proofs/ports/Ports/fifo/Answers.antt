-- What its port shows of the channel.
use Rattle.ooo_interp.proofs.Ported.{fifo_of, no_fifo_of}
use Rattle.ooo_interp.proofs.ports.Ports.fifo.Goals as goal

pub returns-in-Fifo : goal.returns-in-Fifo
returns-in-Fifo c = λ values. fifo_of values c.args.channel _ _ _ c.in-Fifo.is (c.in-Some.ensures values)

pub returns-in-Signal : goal.returns-in-Signal
returns-in-Signal c = λ values. no_fifo_of values c.args.channel _ _ _ _ _ c.in-Signal.is (c.in-Some.ensures values)

pub returns-in-None : goal.returns-in-None
returns-in-None c = λ values. (c.in-None.ensures values).fifo
