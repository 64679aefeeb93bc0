use Rattle.std.proofs.Common.{arith, refl}
use Rattle.ooo_channels.proofs.Reserving.{fifo_with}
use Rattle.ooo_channels.proofs.fifo.FifoState.reserve.Goals as goal

pub returns-clause-kept : goal.returns-clause-kept
returns-clause-kept c = λ m room. record {
  history = omega (arith, room.history, c.reserve-history.ensures.capacity, c.reserve-history.ensures.len);
  values = omega (arith, room.values, c.reserve-values.ensures.capacity, c.reserve-values.ensures.len);
  puts = c.reserve-puts.ensures.more m room.puts;
  takes = c.reserve-takes.ensures.more m room.takes;
}

pub returns-clause-after : goal.returns-clause-after
returns-clause-after c = λ n below x calls h.
    fifo_with c.args.self.now _ n below x calls refl c.reserve-history.ensures.items c.reserve-values.ensures.items
    (c.reserve-puts.ensures.after below x.stamp _) (c.reserve-takes.ensures.after below x.stamp _)
    (returns-clause-kept c 0 h.room) h
