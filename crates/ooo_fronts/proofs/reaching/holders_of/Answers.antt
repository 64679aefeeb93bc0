-- Segment by segment.
use Rattle.std.proofs.Common.{◌≡◌, ◌<◌, ◌↔◌, IsTrue, [], length, get_or, sym, subst, arith}
use Rattle.std.specs.Prelude.{Contains}
use Rattle.ooo_access.specs.Access.{AreAscending}
use Rattle.ooo_segments.specs.Numbers.{AreNumbersOf}
use Rattle.ooo_fronts.specs.Fronts.{process_in}
use Rattle.ooo_fronts.specs.Reaching.{CanBeHeldBy, IsListOf}
use Rattle.ooo_fronts.proofs.Listing.{Holding, adds_more, holding_all, if_ok, list_read, numbers_of, tested}
use Rattle.ooo_fronts.proofs.reaching.holders_of.Goals as goal

pub contains-holds-requires : goal.contains-holds-requires
contains-holds-requires c =
    let lists = c.args.affected.now in
    let a = c.loop-a.a in
    let read = list_read lists a c.index-affected-a.result c.as_slice.result.now c.loop-a-test.true c.index-affected-a.is c.as_slice.ensures in
    let below : a < length c.args.tables.now.graph.segments = let n = c.requires.affected.many in let lt = c.loop-a-test.true in omega arith in
    subst AreAscending (sym read) ((c.requires.affected.each a below).ascending)

pub loop-a-preserved : goal.loop-a-preserved
loop-a-preserved c =
    let t = c.args.tables.now in
    let lists = c.args.affected.now in
    let p = c.args.p in
    let a = c.loop-a.a in
    let read = list_read lists a c.index-affected-a.result c.as_slice.result.now c.loop-a-test.true c.index-affected-a.is c.as_slice.ensures in
    let tells : IsTrue c.contains-holds.result ↔ Contains (get_or lists a []) p = rw read at c.contains-holds.ensures in
    adds_more [] (Holding t lists p) a c.loop-a.set c.add_if.new.set c.loop-a.invariant
    (tested (Contains (get_or lists a []) p) c.contains-holds.result c.process_of.result (process_in t a) c.loop-a.set c.add_if.new.set c.in_ok-add_if.ensures tells c.process_of.ensures)

pub returns : goal.returns
returns c =
    let t = c.args.tables.now in
    let lists = c.args.affected.now in
    let p = c.args.p in
    let end : c.loop-a.a ≡ length lists = let x = c.loop-a-test.false in let y = c.loop-a.auto.a-end in omega arith in
    if_ok (AreNumbersOf c.loop-a.set) (IsListOf (CanBeHeldBy t p)) c.numbers.result
    (λ numbers are. numbers_of (Holding t lists p) (length lists) c.loop-a.set numbers (CanBeHeldBy t p) (rw end at c.loop-a.invariant) are (holding_all t lists p c.requires.affected)) c.numbers.ensures
