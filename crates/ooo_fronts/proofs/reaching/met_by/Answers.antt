-- Segment by segment.
use Rattle.std.proofs.Common.{◌≡◌, [], length, arith}
use Rattle.ooo_segments.specs.Numbers.{AreNumbersOf}
use Rattle.ooo_fronts.specs.Fronts.{process_in}
use Rattle.ooo_fronts.specs.Reaching.{IsListOf, Meets, MeetsProcess}
use Rattle.ooo_fronts.proofs.Listing.{Meeting, adds_more, if_ok, meets_all, numbers_of, tested}
use Rattle.ooo_fronts.proofs.reaching.met_by.Goals as goal

pub loop-c-preserved : goal.loop-c-preserved
loop-c-preserved c =
    let t = c.args.tables.now in
    let b = c.args.b in
    let i = c.loop-c.c in
    adds_more [] (Meeting t b) i c.loop-c.set c.add_if.new.set c.loop-c.invariant
    (tested (Meets t b i) c.meets-met.result c.process_of.result (process_in t i) c.loop-c.set c.add_if.new.set c.in_ok-add_if.ensures c.meets-met.ensures c.process_of.ensures)

pub returns : goal.returns
returns c =
    let t = c.args.tables.now in
    let b = c.args.b in
    let end : c.loop-c.c ≡ length t.graph.segments = let x = c.loop-c-test.false in let y = c.loop-c.auto.c-end in let n = c.len-c-end.ensures in omega arith in
    if_ok (AreNumbersOf c.loop-c.set) (IsListOf (MeetsProcess t b)) c.numbers.result
    (λ numbers are. numbers_of (Meeting t b) (length t.graph.segments) c.loop-c.set numbers (MeetsProcess t b) (rw end at c.loop-c.invariant) are (meets_all t b)) c.numbers.ensures
