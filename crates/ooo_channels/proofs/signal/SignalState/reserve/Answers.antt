use Rattle.std.proofs.Common.{arith, refl}
use Rattle.ooo_channels.proofs.Reserving.{signal_with}
use Rattle.ooo_channels.proofs.Versions.{versions_moved}
use Rattle.ooo_channels.proofs.signal.SignalState.reserve.Goals as goal

pub returns-clause-kept : goal.returns-clause-kept
returns-clause-kept c = λ m room. record {
  past = omega (arith, room.past, c.reserve-past.ensures.capacity, c.reserve-past.ensures.len);
  history = omega (arith, room.history, c.reserve-history.ensures.capacity, c.reserve-history.ensures.len);
  changes = c.reserve-changes.ensures.more m room.changes;
  rises = c.reserve-rises.ensures.more m room.rises;
  falls = c.reserve-falls.ensures.more m room.falls;
}

pub returns-clause-after : goal.returns-clause-after
returns-clause-after c = λ n below x calls h.
    signal_with c.args.self.now _ n below x calls refl c.reserve-history.ensures.items
    (c.reserve-changes.ensures.after below x.stamp _) (c.reserve-rises.ensures.after below x.stamp _) (c.reserve-falls.ensures.after below x.stamp _)
    (returns-clause-kept c 0 h.room) h

pub returns-clause-shows : goal.returns-clause-shows
returns-clause-shows c = λ below was h. versions_moved c.args.self.now.newest _ _ below was c.reserve-past.ensures.items h
