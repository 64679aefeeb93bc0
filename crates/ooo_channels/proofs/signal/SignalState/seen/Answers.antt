use Rattle.std.proofs.Common.{refl}
use Rattle.ooo_channels.specs.Versions.{cycle_from}
use Rattle.ooo_channels.proofs.Versions.{last_version, starts_later}
use Rattle.ooo_channels.proofs.signal.SignalState.seen.Goals as goal

pub returns-then-not-is_before-clause-since : goal.returns-then-not-is_before-clause-since
returns-then-not-is_before-clause-since c = λ below was h later.
    let s = c.args.self.now in
    last_version was s.past.items s.newest h.each c.args.at (λ k. absurd (cc (c.if-not-is_before.ensures.1 k))) tt _ (c.seen.ensures (cycle_from s.newest) (record { stamp = refl; channel = refl }))

pub returns-in-Some-clause-since : goal.returns-in-Some-clause-since
returns-in-Some-clause-since c = λ below was h later.
    let s = c.args.self.now in
    c.in-Some.ensures was s.newest (record { start = starts_later below c.args.at later _ h.start; each = h.each }) (c.if-not-is_before.ensures.0 refl) _
    (c.seen-in-Some.ensures (cycle_from c.in-Some.version) (record { stamp = refl; channel = refl }))

pub returns-in-None-clause-since : goal.returns-in-None-clause-since
returns-in-None-clause-since c = λ below was h later.
    let s = c.args.self.now in
    absurd (c.in-None.ensures was s.newest (record { start = starts_later below c.args.at later _ h.start; each = h.each }) (c.if-not-is_before.ensures.0 refl))
