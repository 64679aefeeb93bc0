-- Segment by segment.
use Rattle.std.proofs.Common.{◌≡◌, ◌<◌, length, refl, arith}
use Rattle.std.proofs.lemmas.List.{length_push}
use Rattle.ooo_lemmas.proofs.Placed.{read_all, read_is}
use Rattle.ooo_access.specs.Access.{IsInOrder}
use Rattle.ooo_conflicts.specs.Kinds.{AreListed}
use Rattle.ooo_conflicts.proofs.CalledLemmas.{row_none, row_more, row_end}
use Rattle.ooo_conflicts.proofs.table.row_of.Goals as goal

pub loop-g-init : goal.loop-g-init
loop-g-init c = rw c.new-row.ensures (record { count = refl; kinds = λ events p q. row_none events _ _ })

pub kind_of-requires-clause-second : goal.kind_of-requires-clause-second
kind_of-requires-clause-second c = read_all IsInOrder c.args.access.now c.loop-g.g _ c.loop-g-test.true c.index-access-g.is c.requires.in_order

pub kind_of-requires-clause-second_calls : goal.kind_of-requires-clause-second_calls
kind_of-requires-clause-second_calls c =
    let lt : c.loop-g.g < length c.args.called.now = let n = c.requires.count in let m = c.loop-g-test.true in omega arith in
    read_all AreListed c.args.called.now c.loop-g.g _ lt c.index-called-g.is c.requires.listed

pub loop-g-preserved : goal.loop-g-preserved
loop-g-preserved c =
    let lt : c.loop-g.g < length c.args.called.now = let n = c.requires.count in let m = c.loop-g-test.true in omega arith in
    let x = read_is c.args.access.now c.loop-g.g _ c.loop-g-test.true c.index-access-g.is in
    let y = read_is c.args.called.now c.loop-g.g _ lt c.index-called-g.is in
    rw c.in_ok-push.ensures.ok (record {
      count = let n = c.loop-g.invariant.count in let m = length_push c.loop-g.row c.kind_of.result in omega arith;
      kinds = λ events p q. row_more events _ _ _ _ _ c.kind_of.result (c.loop-g.invariant.kinds events p q) x (c.kind_of.ensures events p (q.each c.loop-g.g _ _ x y));
    })

pub returns-clause-kinds : goal.returns-clause-kinds
returns-clause-kinds c = λ events p q.
    let end : c.loop-g.g ≡ length c.args.access.now = let a = c.loop-g-test.false in let b = c.loop-g.auto.g-end in omega arith in
    row_end events _ _ _ _ end (c.loop-g.invariant.kinds events p q)
