-- A checked expression without its additions: no kinds, and of each name its word.
use Rattle.ooo_syntax.specs.declared.expr.Expr.{Expr}
use Rattle.ooo_syntax.specs.declared.expr.Expr.TheVariants as expr
use Rattle.ooo_checked.specs.declared.expr.CheckedExpr.{CheckedExpr, CheckedExpr-F, fold-CheckedExpr}
use Rattle.ooo_checked.specs.declared.expr.CheckedExpr.TheOpen as layer

-- each form without its kind, and each name by its word
abbrev pub erased_expr_step : CheckedExpr-F Expr → Expr
erased_expr_step (layer.Number k n) = expr.Number n
erased_expr_step (layer.Truth b at) = expr.Truth b at
erased_expr_step (layer.Name k r) = expr.Name r.word
erased_expr_step (layer.Paren k at e) = expr.Paren at e
erased_expr_step (layer.Index k r i) = expr.Index r.word i
erased_expr_step (layer.Call k r args) = expr.Call r.word args
erased_expr_step (layer.Member k r after m arg) = expr.Member r.word after arg
erased_expr_step (layer.Prefix k at op e) = expr.Prefix at op e
erased_expr_step (layer.Cast k at t e) = expr.Cast at t e
erased_expr_step (layer.Conversion k t e) = expr.Conversion t e
erased_expr_step (layer.Binary k op a b) = expr.Binary op a b
erased_expr_step (layer.Choose k c a b) = expr.Choose c a b

-- an expression
unfoldable pub erased_expr : CheckedExpr → Expr
erased_expr = fold-CheckedExpr Expr erased_expr_step
