-- Nodes that write what an expression gives, and do nothing else.
use Rattle.std.specs.Prelude.{Option, None, Some}
use Rattle.ooo_code.specs.declared.expression.NodeExpr.{NodeExpr}
use Rattle.ooo_code.specs.declared.node.NodeKind.{NodeKind}
use Rattle.ooo_code.specs.declared.node.NodeKind.TheVariants as kind

-- the expression whose value a node writes into a local, a scalar variable or a signal
abbrev pub written : NodeKind → Option NodeExpr
written (kind.Set n e) = Some e
written (kind.Store x None e) = Some e
written (kind.Write c e) = Some e
written k = None
