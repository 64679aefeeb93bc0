-- Each event by whether it is notified.
use Rattle.std.proofs.Common.{◌≡◌, ◌<◌, sym, ◌∙◌, arith, length, take}
use Rattle.std.proofs.lemmas.Bool.{false≢true}
use Rattle.std.proofs.lemmas.List.{take_all, length-take-le}
use Rattle.ooo_access.proofs.Calling.{called_none, called_more, called_other, called_step}
use Rattle.ooo_access.proofs.notices.Called.add.Goals as goal
use Rattle.ooo_access.proofs.notices.Called.add.Goals.{then-calls+in_ok-number_of+in_ok-insert, else-calls}

pub loop-e-init : goal.loop-e-init
loop-e-init c = called_none _ _ _ _ c.requires

pub loop-e-preserved : goal.loop-e-preserved
loop-e-preserved c =
    elim c.if-calls.branch [
      | then-calls+in_ok-number_of+in_ok-insert w ↦
          let len : w.in_ok-number_of.field-0 ≡ length (take c.loop-e.e c.args.events.now) =
          let lt : c.loop-e.e < length c.args.events.now = c.loop-e-test.true in w.in_ok-number_of.ensures ∙ sym (length-take-le c.loop-e.e c.args.events.now (omega arith)) in
          rw w.notices-is (called_step _ _ _ _ _ _ _ _ c.loop-e-test.true (called_more _ _ _ _ _ _ _ _ _ c.loop-e.invariant len (c.calls.ensures.0 w.if-calls.true) w.in_ok-insert.ensures.members w.in_ok-insert.ensures.in_order))
      | else-calls w ↦
          rw w.notices-is (called_step _ _ _ _ _ _ _ _ c.loop-e-test.true (called_other _ _ _ _ _ _ _ c.loop-e.invariant (λ h. false≢true (sym w.if-calls.false ∙ c.calls.ensures.1 h))))
    ]

pub returns-clause-members : goal.returns-clause-members
returns-clause-members c = λ e t.
    let all = take_all _ _ c.loop-e-test.false in
    (rw all at c.loop-e.invariant).has e t
