-- A node that counts takes one of the statements that are left.
use Rattle.std.proofs.Common.{refl, sym, ◌∙◌}
use Rattle.std.proofs.lemmas.Result.{IfOk-weaker}
use Rattle.ooo_interp.specs.Acting.{running_of}
use Rattle.ooo_interp.specs.Running.{room_of}
use Rattle.ooo_interp.proofs.Turned.{at_the_limit, shortens, turns_on}
use Rattle.ooo_interp.proofs.running.go_on.Goals as goal

pub returns-then-not-count-clause-comes : goal.returns-then-not-count-clause-comes
returns-then-not-count-clause-comes g c =
    at_the_limit c.args.nodes.now (running_of c.args.activation.now) c.args.number c.args.left.now.statements (room_of c.args.left.now) (room_of c.pass.new.self) c.in-Some.node.now _ (c.if-not-pass.ensures.passed refl) (sym c.pass.ensures.statements ∙ c.if-not-count.ensures.none refl) (sym c.in-Some.ensures)
    (c.if-not-count.ensures.counts refl)

pub returns-clause-comes : goal.returns-clause-comes
returns-clause-comes g c =
    IfOk-weaker c.do_node.result _ _
    (λ t does. turns_on c.args.nodes.now c.args.left.now c.pass.new.self c.count.new.self c.in-Some.node.now (c.if-not-pass.ensures.passed refl) c.pass.ensures.statements c.if-not-count.ensures.same (λ e. c.if-not-count.ensures.counted e refl) (λ e. c.if-not-count.ensures.room e refl)
    (running_of c.args.activation.now) t c.args.number _ _ (sym c.in-Some.ensures) does) c.do_node.ensures.does

pub returns-clause-shortens : goal.returns-clause-shortens
returns-clause-shortens g c =
    shortens c.args.nodes.now c.args.left.now c.pass.new.self c.count.new.self c.in-Some.node.now (c.if-not-pass.ensures.passed refl) c.pass.ensures.statements c.if-not-count.ensures.same (λ e. c.if-not-count.ensures.counted e refl) (λ e. c.if-not-count.ensures.room e refl) c.do_node.result
