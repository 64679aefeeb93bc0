use Rattle.std.proofs.Common.{◌+◌, arith, subst, sym, ◌∙◌}
use Rattle.ooo_board.specs.Finishing.{AreHistoriesBy}
use Rattle.ooo_board.proofs.Concluding.{by_before, histories_more}
use Rattle.ooo_board.proofs.finishing.histories.Goals as goal

pub push_reserved-requires : goal.push_reserved-requires
push_reserved-requires c = omega (arith, c.loop-c.invariant.room, c.loop-c-test.true)

pub loop-c-preserved : goal.loop-c-preserved
loop-c-preserved c = record {
  histories = λ ops asked.
      subst (AreHistoriesBy ops c.args.before (c.loop-c.c + 1)) (sym c.push_reserved.ensures.items)
      (histories_more ops c.args.before c.loop-c.c c.loop-c.made.items c.from_vec.result (c.loop-c.invariant.histories ops asked)
      (c.from_vec.ensures ∙ by_before ops c.args.before c.loop-c.c c.in-Ok.made.items (asked.ordered c.loop-c.c) (c.in-Ok.ensures ops asked.after)));
  room = omega (arith, c.loop-c.invariant.room, c.loop-c-test.true, c.push_reserved.ensures.len, c.push_reserved.ensures.capacity);
}
