-- A node that is done plainly does what its kind does.
use Rattle.std.proofs.Common.{Option, ap, ◌∙◌}
use Rattle.ooo_code.specs.declared.expression.NodeExpr.{NodeExpr}
use Rattle.ooo_code.specs.declared.node.NodeKind.{NodeKind}
use Rattle.ooo_code.specs.declared.node.NodeKind.TheVariants as kind
use Rattle.ooo_interp.proofs.Acted.{plainly}
use Rattle.ooo_interp.proofs.plainly.do_plainly.Goals as goal

pub returns-in-Some-clause-acts : goal.returns-in-Some-clause-acts
returns-in-Some-clause-acts g c =
    let at : Option NodeExpr → NodeKind = λ i. kind.Store c.in-Store.x i c.in-Store.e in
    plainly _ _ c.args.node.now.next c.store_at.result _ _ c.args.emitted.now (c.in-Store.is ∙ ap at c.in-Some.is) c.store_at.ensures.acts

pub returns-in-Test-clause-acts : goal.returns-in-Test-clause-acts
returns-in-Test-clause-acts g c = plainly _ _ c.args.node.now.next c.test.result _ _ c.args.emitted.now c.in-Test.is c.test.ensures
