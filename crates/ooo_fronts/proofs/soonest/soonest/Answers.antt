-- It meets the other itself.
use Rattle.ooo_fronts.proofs.Meeting.{at_once}
use Rattle.ooo_fronts.proofs.soonest.soonest.Goals as goal

pub returns-then-leads_at_once : goal.returns-then-leads_at_once
returns-then-leads_at_once c =
    at_once c.args.tables.now c.args.a c.args.c c.requires.from (c.leads_at_once.ensures.0 c.if-leads_at_once.true) (c.meets.ensures.0 c.if-meets.true)
