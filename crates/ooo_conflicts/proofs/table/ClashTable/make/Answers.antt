-- Row by row.
use Rattle.std.proofs.Common.{◌≡◌, ◌<◌, length, arith}
use Rattle.ooo_lemmas.proofs.Placed.{read_all, read_is}
use Rattle.ooo_access.specs.Access.{IsInOrder}
use Rattle.ooo_conflicts.specs.Kinds.{AllCalled}
use Rattle.ooo_conflicts.proofs.CalledLemmas.{rows_none, rows_more, rows_end, rows_long, rows_wide, all_listed}
use Rattle.ooo_conflicts.proofs.table.ClashTable.make.Goals as goal

pub loop-b-init : goal.loop-b-init
loop-b-init c = rw c.new-rows.ensures.items (rows_none _ _)

pub row_of-requires-clause-first : goal.row_of-requires-clause-first
row_of-requires-clause-first c = read_all IsInOrder c.args.access.now c.loop-b.b _ c.loop-b-test.true c.index-access-b.is c.requires.in_order

pub row_of-requires-clause-first_calls : goal.row_of-requires-clause-first_calls
row_of-requires-clause-first_calls c =
    let called : AllCalled c.as_slice.result.now c.args.access.now c.as_slice-called.result.now = rw c.as_slice-called.ensures.value c.in_ok-called.ensures in
    let lt : c.loop-b.b < length c.as_slice-called.result.now = let n = called.count in let m = c.loop-b-test.true in omega arith in
    called.listed c.loop-b.b _ (read_is _ c.loop-b.b _ lt c.index-called-b.is)

pub row_of-requires-clause-listed : goal.row_of-requires-clause-listed
row_of-requires-clause-listed c =
    let called : AllCalled c.as_slice.result.now c.args.access.now c.as_slice-called.result.now = rw c.as_slice-called.ensures.value c.in_ok-called.ensures in
    all_listed c.as_slice.result.now c.args.access.now c.as_slice-called.result.now called

pub loop-b-preserved : goal.loop-b-preserved
loop-b-preserved c =
    let events = c.args.design.now.events in
    let called : AllCalled events c.args.access.now c.as_slice-called.result.now = rw (c.as_slice-called.ensures.value, ← c.as_slice.ensures) c.in_ok-called.ensures in
    let lt : c.loop-b.b < length c.as_slice-called.result.now = let n = called.count in let m = c.loop-b-test.true in omega arith in
    let x = read_is c.args.access.now c.loop-b.b _ c.loop-b-test.true c.index-access-b.is in
    let y = read_is c.as_slice-called.result.now c.loop-b.b _ lt c.index-called-b.is in
    rw c.in_ok-push.ensures.items (rows_more events _ _ _ _ c.in_ok-row_of.field-0 c.loop-b.invariant x (c.in_ok-row_of.ensures.kinds events (called.each c.loop-b.b _ _ x y) called))

pub returns-clause-exact : goal.returns-clause-exact
returns-clause-exact c =
    let end : c.loop-b.b ≡ length c.args.access.now = let a = c.loop-b-test.false in let b = c.loop-b.auto.b-end in omega arith in
    rows_end _ _ _ _ end c.loop-b.invariant

pub returns-clause-rows : goal.returns-clause-rows
returns-clause-rows c = rows_wide _ _ _ _ c.loop-b.invariant

pub invariant_of-result : goal.invariant_of-result
invariant_of-result c =
    let end : c.loop-b.b ≡ length c.args.access.now = let a = c.loop-b-test.false in let b = c.loop-b.auto.b-end in omega arith in
    record { wide = rows_long _ _ _ _ end c.loop-b.invariant; listed = rw c.as_slice-2.ensures.value at c.in_ok-clashing.ensures }
