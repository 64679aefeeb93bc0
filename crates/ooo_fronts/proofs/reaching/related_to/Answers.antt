-- Segment by segment.
use Rattle.std.proofs.Common.{◌≡◌, [], length, refl, arith}
use Rattle.ooo_segments.specs.Numbers.{AreNumbersOf}
use Rattle.ooo_fronts.specs.Reaching.{IsListOf, Relates, RelatesTo}
use Rattle.ooo_fronts.proofs.Listing.{Related, adds_more, if_ok, numbers_of, related_all, tested}
use Rattle.ooo_fronts.proofs.reaching.related_to.Goals as goal

pub loop-b-preserved : goal.loop-b-preserved
loop-b-preserved c =
    let t = c.args.tables.now in
    let k = c.args.relation in
    let a = c.args.a in
    let i = c.loop-b.b in
    adds_more [] (Related t k a) i c.loop-b.set c.add_if.new.set c.loop-b.invariant
    (tested (Relates t k a i) c.relates-is_one.result i i c.loop-b.set c.add_if.new.set c.in_ok-add_if.ensures c.relates-is_one.ensures refl)

pub returns : goal.returns
returns c =
    let t = c.args.tables.now in
    let k = c.args.relation in
    let a = c.args.a in
    let end : c.loop-b.b ≡ length t.graph.segments = let x = c.loop-b-test.false in let y = c.loop-b.auto.b-end in let n = c.len-b-end.ensures in omega arith in
    if_ok (AreNumbersOf c.loop-b.set) (IsListOf (RelatesTo t k a)) c.numbers.result
    (λ numbers are. numbers_of (Related t k a) (length t.graph.segments) c.loop-b.set numbers (RelatesTo t k a) (rw end at c.loop-b.invariant) are (related_all t k a)) c.numbers.ensures
