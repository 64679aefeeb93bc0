-- Call by call.
use Rattle.std.proofs.Common.{◌∙◌, sym, arith, length-set}
use Rattle.ooo_calls.proofs.MarkLemmas.{round_more, round_kept}
use Rattle.ooo_calls.proofs.closure.one_call_more.Goals as goal
use Rattle.ooo_calls.proofs.closure.one_call_more.Goals.{then-goes_on, else-goes_on}

pub calls-preserved : goal.calls-preserved
calls-preserved c = elim c.if-goes_on.branch [
  | then-goes_on w ↦ rw w.marks-is (record {
    count = length-set _ _ _ ∙ c.calls.invariant.count;
    exact = round_more c.args.before.now c.args.target c.args.calls.now c.calls.call-index _ c.calls.marks.items c.calls-test.true (let r = c.requires c.calls.call-index (record { from = 0; to = 0 }) c.calls-test.true in let lt = r.0 in let count = c.calls.invariant.count in omega arith) (sym c.goes_on.ensures ∙ w.if-goes_on.true) c.calls.invariant.exact;
  })
  | else-goes_on w ↦ rw w.marks-is (record {
    count = c.calls.invariant.count;
    exact = round_kept c.args.before.now c.args.target c.args.calls.now c.calls.call-index _ c.calls.marks.items c.calls-test.true (sym c.goes_on.ensures ∙ w.if-goes_on.false) c.calls.invariant.exact;
  })
]
