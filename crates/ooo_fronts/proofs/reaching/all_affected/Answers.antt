-- Segment by segment.
use Rattle.std.proofs.Common.{◌<◌, length, sym, subst, arith}
use Rattle.ooo_fronts.specs.Reaching.{CanHoldProcess, IsListOf, LeadsTo}
use Rattle.ooo_fronts.proofs.Listing.{held_by_met, leads_within, list_read, lists_more}
use Rattle.ooo_fronts.proofs.reaching.all_affected.Goals as goal

pub of_any-requires : goal.of_any-requires
of_any-requires c =
    let t = c.args.tables.now in
    let a = c.loop-a.a in
    let read = list_read c.args.leads.now a c.index-leads-a.result c.as_slice.result.now c.loop-a-test.true c.index-leads-a.is c.as_slice.ensures in
    let below : a < length t.graph.segments = let n = c.requires.leads.many in let lt = c.loop-a-test.true in omega arith in
    leads_within t a c.as_slice.result.now (length c.args.met.now) (subst (IsListOf (LeadsTo t a)) (sym read) (c.requires.leads.each a below)) c.requires.met.many

pub loop-a-preserved : goal.loop-a-preserved
loop-a-preserved c =
    let t = c.args.tables.now in
    let a = c.loop-a.a in
    let read = list_read c.args.leads.now a c.index-leads-a.result c.as_slice.result.now c.loop-a-test.true c.index-leads-a.is c.as_slice.ensures in
    let below : a < length t.graph.segments = let n = c.requires.leads.many in let lt = c.loop-a-test.true in omega arith in
    let list = held_by_met t a c.as_slice.result.now c.args.met.now c.in_ok-of_any.field-0 (subst (IsListOf (LeadsTo t a)) (sym read) (c.requires.leads.each a below)) c.requires.met c.in_ok-of_any.ensures in
    rw c.in_ok-push.ensures.items (lists_more (CanHoldProcess t) a c.loop-a.lists.items c.in_ok-of_any.field-0 c.loop-a.invariant list)
