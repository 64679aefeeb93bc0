-- None before the first that meets the other; else as many as are counted.
use Rattle.std.proofs.Common.{◌∙◌, sym, subst, arith}
use Rattle.ooo_time.specs.Delays.{advanced}
use Rattle.ooo_time.specs.Stamps.{IsBefore}
use Rattle.ooo_fronts.specs.Reaching.{IsSoonest}
use Rattle.ooo_fronts.proofs.Meeting.{none_in_time, none_meets, soonest_addable}
use Rattle.ooo_fronts.proofs.holds.holds_ahead.Goals as goal

pub soonest-requires-clause-from : goal.soonest-requires-clause-from
soonest-requires-clause-from c = let lt = c.requires.fit.segment in let many = c.requires.reaches.soonest.count in omega (arith, lt, many)

pub soonest-requires-clause-to : goal.soonest-requires-clause-to
soonest-requires-clause-to c =
    let lt = c.requires.held.segment in
    let many = (c.requires.reaches.soonest.each c.args.g.segment c.requires.fit.segment).count in
    omega (arith, lt, many)

pub returns-in_default-clause-exact : goal.returns-in_default-clause-exact
returns-in_default-clause-exact c =
    let a = c.args in
    let is = (c.requires.reaches.soonest.each a.g.segment c.requires.fit.segment).each a.f.segment c.requires.held.segment in
    sym (none_meets a.tables.now a.g a.p a.f c.requires.held (subst (IsSoonest a.tables.now a.g.segment a.f.segment) (sym c.soonest.ensures ∙ c.in_default.is) is))

pub advance-requires-clause-delay : goal.advance-requires-clause-delay
advance-requires-clause-delay c =
    let a = c.args in
    let is = (c.requires.reaches.soonest.each a.g.segment c.requires.fit.segment).each a.f.segment c.requires.held.segment in
    (soonest_addable a.tables.now a.g.segment a.f.segment c.in-Some.delay c.requires.aligned c.requires.fit.segment (subst (IsSoonest a.tables.now a.g.segment a.f.segment) (sym c.soonest.ensures ∙ c.in-Some.is) is)).time

pub advance-requires-clause-deltas : goal.advance-requires-clause-deltas
advance-requires-clause-deltas c =
    let a = c.args in
    let is = (c.requires.reaches.soonest.each a.g.segment c.requires.fit.segment).each a.f.segment c.requires.held.segment in
    (soonest_addable a.tables.now a.g.segment a.f.segment c.in-Some.delay c.requires.aligned c.requires.fit.segment (subst (IsSoonest a.tables.now a.g.segment a.f.segment) (sym c.soonest.ensures ∙ c.in-Some.is) is)).deltas

pub returns-then-is_before-clause-exact : goal.returns-then-is_before-clause-exact
returns-then-is_before-clause-exact c =
    let a = c.args in
    let is = (c.requires.reaches.soonest.each a.g.segment c.requires.fit.segment).each a.f.segment c.requires.held.segment in
    let early : IsBefore a.f.stamp (advanced a.g.stamp c.in-Some.delay) = subst (IsBefore a.f.stamp) c.advance.ensures (c.is_before.ensures.0 c.if-is_before.true) in
    sym (none_in_time a.tables.now a.g a.p a.f c.in-Some.delay c.requires.held (subst (IsSoonest a.tables.now a.g.segment a.f.segment) (sym c.soonest.ensures ∙ c.in-Some.is) is) early)
