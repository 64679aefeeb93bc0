use Rattle.std.proofs.Common.{[], subst}
use Rattle.ooo_layout.specs.Weighing.{Spends, SpendsOwn}
use Rattle.ooo_layout.proofs.Owing.{first_owed, less_owed, too_much_owed}
use Rattle.ooo_layout.proofs.sizes.spend.Goals as goal

pub calls-init : goal.calls-init
calls-init c =
    first_owed c.args.weights.now c.args.w.now c.args.depth c.args.left c.in-Some.rest c.spend_own.new.owed
    (subst (λ o. SpendsOwn c.args.w.now c.args.depth c.args.left [] c.spend_own.new.owed o) c.in-Some.is (subst (λ xs. SpendsOwn c.args.w.now c.args.depth c.args.left xs c.spend_own.new.owed c.in_ok-rest.field-0) c.new-owed.ensures c.in_ok-rest.ensures))

pub calls-preserved : goal.calls-preserved
calls-preserved c =
    (less_owed c.args.weights.now c.in-Some-pop.call _ c.args.left c.calls.rest c.in-Some-2.less c.calls.owed c.pop.new.self c.spend_call.new.owed c.in-Some-pop.ensures c.calls.invariant
    (subst (λ o. Spends c.args.weights.now c.in-Some-pop.call c.calls.rest c.pop.new.self c.spend_call.new.owed o) c.in-Some-2.is c.in_ok-spend_call.ensures)).0

pub calls-smaller : goal.calls-smaller
calls-smaller c =
    (less_owed c.args.weights.now c.in-Some-pop.call _ c.args.left c.calls.rest c.in-Some-2.less c.calls.owed c.pop.new.self c.spend_call.new.owed c.in-Some-pop.ensures c.calls.invariant
    (subst (λ o. Spends c.args.weights.now c.in-Some-pop.call c.calls.rest c.pop.new.self c.spend_call.new.owed o) c.in-Some-2.is c.in_ok-spend_call.ensures)).1

pub returns-in-None : goal.returns-in-None
returns-in-None c =
    too_much_owed c.args.weights.now c.in-Some-pop.call _ c.args.left c.calls.rest c.calls.owed c.pop.new.self c.spend_call.new.owed c.in-Some-pop.ensures c.calls.invariant
    (subst (λ o. Spends c.args.weights.now c.in-Some-pop.call c.calls.rest c.pop.new.self c.spend_call.new.owed o) c.in-None.is c.in_ok-spend_call.ensures)
