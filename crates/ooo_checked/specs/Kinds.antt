-- The kinds of the values of expressions.
use Rattle.ooo_value.specs.declared.kinds.Kind.{Kind}
use Rattle.ooo_value.specs.declared.kinds.Kind.TheVariants as kind
use Rattle.ooo_checked.specs.declared.expr.CheckedExpr.{CheckedExpr, CheckedExpr-F, out-CheckedExpr}
use Rattle.ooo_checked.specs.declared.expr.CheckedExpr.TheOpen as layer

abbrev pub kind_step : CheckedExpr-F CheckedExpr → Kind
kind_step (layer.Number k n) = k
kind_step (layer.Truth b at) = kind.Bool
kind_step (layer.Name k name) = k
kind_step (layer.Paren k at e) = k
kind_step (layer.Index k name i) = k
kind_step (layer.Call k name args) = k
kind_step (layer.Member k name word method arg) = k
kind_step (layer.Prefix k at op e) = k
kind_step (layer.Cast k at form e) = k
kind_step (layer.Conversion k form e) = k
kind_step (layer.Binary k op a b) = k
kind_step (layer.Choose k c a b) = k

-- the kind that stands beside an expression
abbrev pub kind_of : CheckedExpr → Kind
kind_of e = kind_step (out-CheckedExpr e)
