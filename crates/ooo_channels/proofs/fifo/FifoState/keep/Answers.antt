use Rattle.std.proofs.Common.{refl}
use Rattle.ooo_channels.proofs.Reserving.{fifo_with}
use Rattle.ooo_channels.proofs.fifo.FifoState.keep.Goals as goal

pub returns-in-Written-clause-after : goal.returns-in-Written-clause-after
returns-in-Written-clause-after c = λ n below x h.
    fifo_with c.args.self.now _ n below x _ refl refl refl (λ _. c.new.ensures.first below x.stamp) (λ k. k)
    (record { history = h.room.history; values = h.room.values; puts = c.new.ensures.room; takes = h.room.takes }) h

pub returns-in-Taken-clause-after : goal.returns-in-Taken-clause-after
returns-in-Taken-clause-after c = λ n below x h.
    fifo_with c.args.self.now _ n below x _ refl refl refl (λ k. k) (λ _. c.new-in-Taken.ensures.first below x.stamp)
    (record { history = h.room.history; values = h.room.values; puts = h.room.puts; takes = c.new-in-Taken.ensures.room }) h
