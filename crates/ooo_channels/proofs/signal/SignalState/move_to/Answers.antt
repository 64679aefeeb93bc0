use Rattle.std.proofs.Common.{refl, sym, subst}
use Rattle.ooo_time.specs.Stamps.{IsBefore}
use Rattle.ooo_channels.proofs.Versions.{versions_kept, versions_replaced}
use Rattle.ooo_channels.proofs.signal.SignalState.move_to.Goals as goal

pub returns-after-changes-clause-since : goal.returns-after-changes-clause-since
returns-after-changes-clause-since c = λ was new now start each.
    let s = c.args.self.now in
    c.append.ensures.since was new now start
    (versions_kept was s.past.items s.newest new (subst (λ t. IsBefore s.newest.stamp t) (sym now) (c.if-is_before.ensures.0 refl)) each)

pub returns-else-is_before-clause-since : goal.returns-else-is_before-clause-since
returns-else-is_before-clause-since c = λ was new now start each.
    let s = c.args.self.now in
    versions_replaced c.args.below was s.past.items s.newest new
    (subst (λ t. ¬ IsBefore s.newest.stamp t) (sym now) (λ h. absurd (cc (c.if-is_before.ensures.1 h)))) start each
