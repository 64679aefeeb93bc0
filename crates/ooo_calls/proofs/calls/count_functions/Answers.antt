-- Call by call.
use Rattle.std.proofs.Common.{arith, subst}
use Rattle.std.proofs.lemmas.List.{take_all}
use Rattle.ooo_calls.specs.Marks.{AreBelow}
use Rattle.ooo_calls.proofs.MarkLemmas.{below_more}
use Rattle.ooo_calls.proofs.calls.count_functions.Goals as goal

pub calls-preserved : goal.calls-preserved
calls-preserved c =
    below_more c.args.calls.now c.calls.call-index c.calls.count _ (record { from = 0; to = 0 }) c.calls-test.true (omega arith) (omega arith) (omega arith) c.calls.invariant

pub returns : goal.returns
returns c =
    subst (λ cs. AreBelow c.calls.count cs) (take_all c.calls.call-index c.args.calls.now c.calls-test.false) c.calls.invariant
