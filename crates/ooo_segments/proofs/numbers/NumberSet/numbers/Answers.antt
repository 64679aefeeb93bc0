-- Each number by its mark.
use Rattle.std.proofs.Common.{◌∙◌}
use Rattle.ooo_segments.proofs.Marks.{below_in, below_out, below_all, below_none, in_from_mark, out_from_mark}
use Rattle.ooo_segments.proofs.numbers.NumberSet.numbers.Goals as goal
use Rattle.ooo_segments.proofs.numbers.NumberSet.numbers.Goals.{then-marked+in_ok-push, else-marked}

pub loop-n-init : goal.loop-n-init
loop-n-init c = record {
  items = c.deref-marked-items.ensures.value ∙ c.self.view_is;
  numbers = rw c.in_ok-numbers.ensures.items (below_none _);
}

pub loop-n-preserved : goal.loop-n-preserved
loop-n-preserved c =
    let i = c.loop-n.invariant in
    elim c.if-marked.branch [
      | then-marked+in_ok-push w ↦ record {
        items = i.items;
        numbers = rw (w.numbers-is, w.in_ok-push.ensures.items) (below_in _ _ _ i.numbers (in_from_mark _ _ _ i.items c.loop-n-test.true w.if-marked.true));
      }
      | else-marked w ↦ record {
        items = i.items;
        numbers = rw w.numbers-is (below_out _ _ _ i.numbers (out_from_mark _ _ _ i.items w.if-marked.false));
      }
    ]

pub returns : goal.returns
returns c = rw c.from_vec.ensures (below_all _ _ _ c.loop-n.invariant.numbers (rw (← c.loop-n.invariant.items) c.loop-n-test.false))
