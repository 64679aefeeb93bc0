-- A node does what its kind does.
use Rattle.std.proofs.Common.{Ok, refl}
use Rattle.ooo_interp.specs.Acting.{running_of}
use Rattle.ooo_interp.proofs.Acted.{acts_by, goes_with}
use Rattle.ooo_interp.proofs.acting.act.Goals as goal

pub returns-in-Set-clause-acts : goal.returns-in-Set-clause-acts
returns-in-Set-clause-acts g c = acts_by (running_of c.args.activation.now) c.args.node.now _ c.args.number _ _ _ c.in-Set.is (c.set.ensures.acts c.args.emitted.now c.args.trigger.now (running_of c.args.activation.now) c.args.number c.args.node.now.line)

pub returns-in-Store-clause-acts : goal.returns-in-Store-clause-acts
returns-in-Store-clause-acts g c = acts_by (running_of c.args.activation.now) c.args.node.now _ c.args.number _ _ _ c.in-Store.is (c.store.ensures.acts c.args.emitted.now c.args.trigger.now (running_of c.args.activation.now) c.args.number c.args.node.now.line)

pub returns-in-Test-clause-acts : goal.returns-in-Test-clause-acts
returns-in-Test-clause-acts g c = acts_by (running_of c.args.activation.now) c.args.node.now _ c.args.number _ _ _ c.in-Test.is (c.test.ensures c.args.emitted.now c.args.trigger.now (running_of c.args.activation.now) c.args.number c.args.node.now.line)

pub returns-in-PrintText-clause-acts : goal.returns-in-PrintText-clause-acts
returns-in-PrintText-clause-acts g c = acts_by (running_of c.args.activation.now) c.args.node.now _ c.args.number _ _ _ c.in-PrintText.is (c.print_text.ensures _ c.args.trigger.now (running_of c.args.activation.now) c.args.number c.args.node.now.line)

pub returns-in-PrintValue-clause-acts : goal.returns-in-PrintValue-clause-acts
returns-in-PrintValue-clause-acts g c = acts_by (running_of c.args.activation.now) c.args.node.now _ c.args.number _ _ _ c.in-PrintValue.is (c.print_value.ensures c.args.trigger.now (running_of c.args.activation.now) c.args.number c.args.node.now.line)

pub returns-in-PrintTime-clause-acts : goal.returns-in-PrintTime-clause-acts
returns-in-PrintTime-clause-acts g c = acts_by (running_of c.args.activation.now) c.args.node.now _ c.args.number _ _ _ c.in-PrintTime.is (c.print_time.ensures _ c.args.trigger.now (running_of c.args.activation.now) c.args.number c.args.node.now.line refl)

pub returns-in-Write-clause-acts : goal.returns-in-Write-clause-acts
returns-in-Write-clause-acts g c = acts_by (running_of c.args.activation.now) c.args.node.now _ c.args.number _ _ _ c.in-Write.is (c.write.ensures c.args.trigger.now (running_of c.args.activation.now) c.args.number c.args.node.now.line)

pub returns-in-TestAvailable-clause-acts : goal.returns-in-TestAvailable-clause-acts
returns-in-TestAvailable-clause-acts g c = acts_by (running_of c.args.activation.now) c.args.node.now _ c.args.number (Ok c.test_available.result) _ _ c.in-TestAvailable.is (c.test_available.ensures c.args.emitted.now c.args.trigger.now (running_of c.args.activation.now) c.args.number c.args.node.now.line)

pub returns-in-TestFree-clause-acts : goal.returns-in-TestFree-clause-acts
returns-in-TestFree-clause-acts g c = acts_by (running_of c.args.activation.now) c.args.node.now _ c.args.number (Ok c.test_free.result) _ _ c.in-TestFree.is (c.test_free.ensures c.args.emitted.now c.args.trigger.now (running_of c.args.activation.now) c.args.number c.args.node.now.line)

pub returns-in-Take-clause-acts : goal.returns-in-Take-clause-acts
returns-in-Take-clause-acts g c = acts_by (running_of c.args.activation.now) c.args.node.now _ c.args.number _ _ _ c.in-Take.is (c.take.ensures.acts c.args.trigger.now (running_of c.args.activation.now) c.args.number c.args.node.now.line)

pub returns-in-Put-clause-acts : goal.returns-in-Put-clause-acts
returns-in-Put-clause-acts g c = acts_by (running_of c.args.activation.now) c.args.node.now _ c.args.number _ _ _ c.in-Put.is (c.put.ensures.acts c.args.trigger.now (running_of c.args.activation.now) c.args.number c.args.node.now.line)

pub returns-in-Notify-clause-acts : goal.returns-in-Notify-clause-acts
returns-in-Notify-clause-acts g c = acts_by (running_of c.args.activation.now) c.args.node.now _ c.args.number _ _ _ c.in-Notify.is (c.notify.ensures c.args.trigger.now (running_of c.args.activation.now) c.args.number c.args.node.now.line)

pub returns-in-Cancel-clause-acts : goal.returns-in-Cancel-clause-acts
returns-in-Cancel-clause-acts g c = acts_by (running_of c.args.activation.now) c.args.node.now _ c.args.number _ _ _ c.in-Cancel.is (goes_with (running_of c.args.activation.now) c.args.node.now.line _ _ _ _ _ _ (c.go_with.ensures _ c.args.trigger.now) (λ next. refl))

pub returns-in-Stop-clause-acts : goal.returns-in-Stop-clause-acts
returns-in-Stop-clause-acts g c = acts_by (running_of c.args.activation.now) c.args.node.now _ c.args.number _ _ _ c.in-Stop.is (goes_with (running_of c.args.activation.now) c.args.node.now.line _ _ _ _ _ _ (c.go_with-in-Stop.ensures _ c.args.trigger.now) (λ next. refl))

pub returns-in-Trigger-clause-acts : goal.returns-in-Trigger-clause-acts
returns-in-Trigger-clause-acts g c = acts_by (running_of c.args.activation.now) c.args.node.now _ c.args.number _ _ _ c.in-Trigger.is (c.set_trigger.ensures c.args.emitted.now (running_of c.args.activation.now) c.args.number c.args.node.now.line)

pub returns-in-Wait-clause-acts : goal.returns-in-Wait-clause-acts
returns-in-Wait-clause-acts g c = acts_by (running_of c.args.activation.now) c.args.node.now _ c.args.number _ _ _ c.in-Wait.is (c.wait.ensures c.args.emitted.now c.args.trigger.now (running_of c.args.activation.now) c.args.node.now.line c.args.node.now.next)
