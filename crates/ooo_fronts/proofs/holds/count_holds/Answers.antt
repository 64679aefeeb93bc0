-- At its stamp by those to which it leads with no delay; else by those to which it leads, or those that meet the other.
use Rattle.std.proofs.Common.{◌∙◌, sym, subst, arith}
use Rattle.ooo_fronts.specs.Reaching.{IsListOf, IsMetBy, LeadsAtOnce, LeadsTo}
use Rattle.ooo_fronts.proofs.Counted.{few_hold}
use Rattle.ooo_fronts.proofs.Holding.{leads_are_all}
use Rattle.ooo_fronts.proofs.Orders.{yes_same}
use Rattle.ooo_fronts.proofs.holds.count_holds.Goals as goal

pub count_at_once-requires-clause-same : goal.count_at_once-requires-clause-same
count_at_once-requires-clause-same c = yes_same c.args.f.stamp c.args.g.stamp (sym c.eq.ensures ∙ c.if-eq.true)

pub count_at_once-requires-clause-all : goal.count_at_once-requires-clause-all
count_at_once-requires-clause-all c =
    let a = c.args in
    let t = a.tables.now in
    subst (IsListOf (LeadsAtOnce t a.g.segment)) (sym c.at_once.ensures) (c.requires.reaches.at_once.each a.g.segment c.requires.fit.segment)

pub returns-then-eq-clause-few : goal.returns-then-eq-clause-few
returns-then-eq-clause-few c =
    let few = few_hold c.args.tables.now c.args.g c.args.p c.args.f in
    let is = c.count_at_once.ensures in
    omega (arith, few, is)

pub count_among-requires-clause-all : goal.count_among-requires-clause-all
count_among-requires-clause-all c =
    let a = c.args in
    let t = a.tables.now in
    let list = subst (IsListOf (LeadsTo t a.g.segment)) (sym c.leads-leads.ensures) (c.requires.reaches.leads.each a.g.segment c.requires.fit.segment) in
    leads_are_all t a.g a.p a.f c.leads-leads.result.now list

pub count_meeting-requires-clause-all : goal.count_meeting-requires-clause-all
count_meeting-requires-clause-all c =
    let a = c.args in
    let t = a.tables.now in
    subst (IsListOf (IsMetBy t a.f.segment)) (sym c.meeting-meeting.ensures) (c.requires.reaches.meeting.each a.f.segment c.requires.held.segment)

pub returns-then-leads-meeting-clause-few : goal.returns-then-leads-meeting-clause-few
returns-then-leads-meeting-clause-few c =
    let few = few_hold c.args.tables.now c.args.g c.args.p c.args.f in
    let is = c.count_among.ensures in
    omega (arith, few, is)

pub returns-else-leads-meeting-clause-few : goal.returns-else-leads-meeting-clause-few
returns-else-leads-meeting-clause-few c =
    let few = few_hold c.args.tables.now c.args.g c.args.p c.args.f in
    let is = c.count_meeting.ensures in
    omega (arith, few, is)
