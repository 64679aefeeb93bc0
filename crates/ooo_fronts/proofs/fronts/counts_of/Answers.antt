use Rattle.std.proofs.Common.{◌≡◌, length, arith}
use Rattle.ooo_fronts.proofs.Counted.{counted_all, counted_more, counted_none_yet}
use Rattle.ooo_fronts.proofs.Entries.{columns_all, columns_more, columns_none}
use Rattle.ooo_fronts.proofs.fronts.counts_of.Goals as goal

pub loop-p-init : goal.loop-p-init
loop-p-init c = record {
  counted = rw c.in_ok-counts.ensures.items (counted_none_yet c.args.tables.now c.args.fronts.now);
  columns = columns_none c.args.tables.now c.args.fronts.now c.args.holds.now c.requires.size;
}

pub loop-p-preserved : goal.loop-p-preserved
loop-p-preserved c = record {
  counted = rw c.in_ok-push.ensures.items (counted_more c.args.tables.now c.args.fronts.now c.loop-p.p c.loop-p.counts.items c.count_of.result c.loop-p.invariant.counted c.count_of.ensures.count);
  columns = columns_more c.args.tables.now c.args.fronts.now c.loop-p.p c.loop-p.holds c.count_of.new.holds c.loop-p.invariant.columns c.count_of.ensures.others c.count_of.ensures.column;
}

pub returns-clause-counts : goal.returns-clause-counts
returns-clause-counts c =
    let end : c.loop-p.p ≡ length c.args.fronts.now = let x = c.loop-p-test.false in let y = c.loop-p.auto.p-end in omega arith in
    counted_all c.args.tables.now c.args.fronts.now c.loop-p.p c.loop-p.counts.items end c.loop-p.invariant.counted

pub returns-clause-holds : goal.returns-clause-holds
returns-clause-holds c =
    columns_all c.args.tables.now c.args.fronts.now c.loop-p.p c.loop-p.holds c.loop-p-test.false c.loop-p.invariant.columns
