use Rattle.std.proofs.Common.{refl}
use Rattle.ooo_channels.proofs.Reserving.{signal_with}
use Rattle.ooo_channels.proofs.signal.SignalState.keep.Goals as goal

pub returns-in-Changed-clause-after : goal.returns-in-Changed-clause-after
returns-in-Changed-clause-after c = λ n below x h.
    signal_with c.args.self.now _ n below x _ refl refl (λ _. c.new.ensures.first below x.stamp) (λ k. k) (λ k. k)
    (record { past = h.room.past; history = h.room.history; changes = c.new.ensures.room; rises = h.room.rises; falls = h.room.falls }) h

pub returns-in-Rise-clause-after : goal.returns-in-Rise-clause-after
returns-in-Rise-clause-after c = λ n below x h.
    signal_with c.args.self.now _ n below x _ refl refl (λ k. k) (λ _. c.new-in-Rise.ensures.first below x.stamp) (λ k. k)
    (record { past = h.room.past; history = h.room.history; changes = h.room.changes; rises = c.new-in-Rise.ensures.room; falls = h.room.falls }) h

pub returns-in-Fall-clause-after : goal.returns-in-Fall-clause-after
returns-in-Fall-clause-after c = λ n below x h.
    signal_with c.args.self.now _ n below x _ refl refl (λ k. k) (λ k. k) (λ _. c.new-in-Fall.ensures.first below x.stamp)
    (record { past = h.room.past; history = h.room.history; changes = h.room.changes; rises = h.room.rises; falls = c.new-in-Fall.ensures.room }) h
