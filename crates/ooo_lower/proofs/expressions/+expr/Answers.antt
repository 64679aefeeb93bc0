use Rattle.std.proofs.Common.{◌∙◌, ap, refl}
use Rattle.ooo_code.specs.declared.expression.NodeExpr.TheVariants as node
use Rattle.ooo_shapes.specs.Expressions.{lowered}
use Rattle.ooo_lower.proofs.Formed.{formed-result, formed-tree, lowered-Available, lowered-Binary, lowered-Both, lowered-Changed, lowered-Choose, lowered-Constant}
use Rattle.ooo_lower.proofs.Formed.{lowered-Convert, lowered-Edge, lowered-Either, lowered-Element, lowered-Free, lowered-Invert, lowered-Local, lowered-Negate}
use Rattle.ooo_lower.proofs.Formed.{lowered-Not, lowered-Promote, lowered-Signal, lowered-Variable}
use Rattle.ooo_lower.proofs.expressions.+expr.Goals as goal

pub lowered-returns-in-Constant : goal.lowered-returns-in-Constant
lowered-returns-in-Constant t c =
    formed-tree c.args.t c.args.e.now c.in-Constant.is (lowered-Constant c.args.t c.in-Constant.value)
    _ refl

pub lowered-returns-in-Variable : goal.lowered-returns-in-Variable
lowered-returns-in-Variable t c =
    formed-tree c.args.t c.args.e.now c.in-Variable.is (lowered-Variable c.args.t c.in-Variable.variable)
    _ refl

pub lowered-returns-in-Signal : goal.lowered-returns-in-Signal
lowered-returns-in-Signal t c =
    formed-tree c.args.t c.args.e.now c.in-Signal.is (lowered-Signal c.args.t c.in-Signal.channel)
    _ refl

pub lowered-returns-in-Changed : goal.lowered-returns-in-Changed
lowered-returns-in-Changed t c =
    formed-tree c.args.t c.args.e.now c.in-Changed.is (lowered-Changed c.args.t c.in-Changed.channel)
    _ refl

pub lowered-returns-in-Edge : goal.lowered-returns-in-Edge
lowered-returns-in-Edge t c =
    formed-tree c.args.t c.args.e.now c.in-Edge.is (lowered-Edge c.args.t c.in-Edge.channel c.in-Edge.up)
    _ refl

pub lowered-returns-in-Available : goal.lowered-returns-in-Available
lowered-returns-in-Available t c =
    formed-tree c.args.t c.args.e.now c.in-Available.is (lowered-Available c.args.t c.in-Available.channel)
    _ refl

pub lowered-returns-in-Free : goal.lowered-returns-in-Free
lowered-returns-in-Free t c =
    formed-tree c.args.t c.args.e.now c.in-Free.is (lowered-Free c.args.t c.in-Free.channel)
    _ refl

pub lowered-returns-in-Ok : goal.lowered-returns-in-Ok
lowered-returns-in-Ok t c =
    formed-tree c.args.t c.args.e.now c.in-Local.is (lowered-Local c.args.t c.in-Local.kind c.in-Local.slot)
    _ (ap node.Slot c.in-Ok.ensures)

pub lowered-returns-in-Ok-boxed : goal.lowered-returns-in-Ok-boxed
lowered-returns-in-Ok-boxed t c =
    formed-tree c.args.t c.args.e.now c.in-Element.is (lowered-Element c.args.t c.in-Element.variable c.in-Element.index)
    _ (ap (λ i. node.Element c.in-Element.variable i) (c.in-Ok-boxed.ensures ∙ ap (lowered c.args.t) c.get.ensures))

pub lowered-returns-in-Ok-boxed-2 : goal.lowered-returns-in-Ok-boxed-2
lowered-returns-in-Ok-boxed-2 t c =
    formed-tree c.args.t c.args.e.now c.in-Convert.is (lowered-Convert c.args.t c.in-Convert.kind c.in-Convert.e)
    _ (ap (λ x. node.Convert c.in-Convert.kind x) (c.in-Ok-boxed-2.ensures ∙ ap (lowered c.args.t) c.get-in-Convert.ensures))

pub lowered-returns-in-Ok-boxed-3 : goal.lowered-returns-in-Ok-boxed-3
lowered-returns-in-Ok-boxed-3 t c =
    formed-result c.args.t c.args.e.now c.in-Promote.is (lowered-Promote c.args.t c.in-Promote.e)
    c.kept.result (rw (c.in-Ok-boxed-3.ensures, c.get-in-Promote.ensures) at c.kept.ensures)

pub lowered-returns-in-Ok-boxed-4 : goal.lowered-returns-in-Ok-boxed-4
lowered-returns-in-Ok-boxed-4 t c =
    formed-tree c.args.t c.args.e.now c.in-Negate.is (lowered-Negate c.args.t c.in-Negate.e)
    _ (ap node.Negate (c.in-Ok-boxed-4.ensures ∙ ap (lowered c.args.t) c.get-in-Negate.ensures))

pub lowered-returns-in-Ok-boxed-5 : goal.lowered-returns-in-Ok-boxed-5
lowered-returns-in-Ok-boxed-5 t c =
    formed-tree c.args.t c.args.e.now c.in-Invert.is (lowered-Invert c.args.t c.in-Invert.e)
    _ (ap node.Invert (c.in-Ok-boxed-5.ensures ∙ ap (lowered c.args.t) c.get-in-Invert.ensures))

pub lowered-returns-in-Ok-boxed-6 : goal.lowered-returns-in-Ok-boxed-6
lowered-returns-in-Ok-boxed-6 t c =
    formed-tree c.args.t c.args.e.now c.in-Not.is (lowered-Not c.args.t c.in-Not.e)
    _ (ap node.Not (c.in-Ok-boxed-6.ensures ∙ ap (lowered c.args.t) c.get-in-Not.ensures))

pub lowered-returns-in-Ok-operands : goal.lowered-returns-in-Ok-operands
lowered-returns-in-Ok-operands t c =
    formed-tree c.args.t c.args.e.now c.in-Binary.is (lowered-Binary c.args.t c.in-Binary.op c.in-Binary.a c.in-Binary.b)
    _ (rw (c.in-Ok-operands.ensures, c.get-in-Binary.ensures, c.get-in-Binary-2.ensures) refl)

pub lowered-returns-in-Ok-operands-2 : goal.lowered-returns-in-Ok-operands-2
lowered-returns-in-Ok-operands-2 t c =
    formed-tree c.args.t c.args.e.now c.in-Both.is (lowered-Both c.args.t c.in-Both.a c.in-Both.b)
    _ (rw (c.in-Ok-operands-2.ensures, c.get-in-Both.ensures, c.get-in-Both-2.ensures) refl)

pub lowered-returns-in-Ok-operands-3 : goal.lowered-returns-in-Ok-operands-3
lowered-returns-in-Ok-operands-3 t c =
    formed-tree c.args.t c.args.e.now c.in-Either.is (lowered-Either c.args.t c.in-Either.a c.in-Either.b)
    _ (rw (c.in-Ok-operands-3.ensures, c.get-in-Either.ensures, c.get-in-Either-2.ensures) refl)

pub lowered-returns-in-Ok-operands-4 : goal.lowered-returns-in-Ok-operands-4
lowered-returns-in-Ok-operands-4 t c =
    formed-result c.args.t c.args.e.now c.in-Choose.is (lowered-Choose c.args.t c.in-Choose.kind c.in-Choose.test c.in-Choose.a c.in-Choose.b)
    c.choice.result (rw (c.in-Ok-boxed-7.ensures, c.in-Ok-operands-4.ensures, c.get-in-Choose.ensures, c.get-in-Choose-2.ensures, c.get-in-Choose-3.ensures) at c.choice.ensures)
