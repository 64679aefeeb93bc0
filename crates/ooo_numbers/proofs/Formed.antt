-- Expressions by their forms.
use Rattle.std.proofs.Common.{◌≡◌, ◌∙◌, ap, sym, Bool, List, Option}
use Rattle.ooo_lexer.specs.declared.position.Position.{Position}
use Rattle.ooo_value.specs.declared.kinds.Kind.{Kind}
use Rattle.ooo_value.specs.declared.values.Value.TheVariants as value
use Rattle.ooo_syntax.specs.declared.leaves.Number.{Number}
use Rattle.ooo_syntax.specs.declared.leaves.Word.{Word}
use Rattle.ooo_syntax.specs.declared.expr.PrefixOp.{PrefixOp}
use Rattle.ooo_syntax.specs.declared.expr.BinaryOp.{BinaryOp}
use Rattle.ooo_bound.specs.declared.expr.BoundExpr.{BoundExpr}
use Rattle.ooo_bound.specs.declared.expr.BoundExpr.TheVariants as bound
use Rattle.ooo_checked.specs.declared.denotation.Method.{Method}
use Rattle.ooo_checked.specs.declared.denotation.Resolved.{Resolved}
use Rattle.ooo_checked.specs.declared.expr.CheckedExpr.{CheckedExpr, CheckedExpr-F, map-CheckedExpr, roll-CheckedExpr, fold-roll-CheckedExpr}
use Rattle.ooo_checked.specs.declared.expr.CheckedExpr.TheOpen as layer
use Rattle.ooo_checked.specs.declared.expr.CheckedExpr.TheVariants as tree
use Rattle.ooo_constants.specs.Values.{operator_of}
use Rattle.ooo_numbers.specs.Exprs.{expr_of, expr_step, method_of, name_of, nothing, operated, prefixed}
use Rattle.ooo_numbers.specs.Names.{Numbering, variable_of}

-- an expression by its form
at_layer : (n : Numbering) (y : CheckedExpr-F CheckedExpr) →
    expr_of n (roll-CheckedExpr y) ≡ expr_step n (map-CheckedExpr CheckedExpr BoundExpr (expr_of n) y)
unfolding expr_of
at_layer n y = fold-roll-CheckedExpr BoundExpr (expr_step n) y

module _ (n : Numbering) where
  -- forms that hold no expression that counts
  pub expr_of-Number : (k : Kind) (x : Number) → expr_of n (tree.Number k x) ≡ bound.Constant x.value
  expr_of-Number k x = ap (expr_of n) (sym (tree.rolls-Number k x)) ∙ at_layer n (layer.Number k x)

  pub expr_of-Truth : (b : Bool) (at : Position) → expr_of n (tree.Truth b at) ≡ bound.Constant (value.Bool b)
  expr_of-Truth b at = ap (expr_of n) (sym (tree.rolls-Truth b at)) ∙ at_layer n (layer.Truth b at)

  pub expr_of-Name : (k : Kind) (r : Resolved) → expr_of n (tree.Name k r) ≡ name_of n r.denotes
  expr_of-Name k r = ap (expr_of n) (sym (tree.rolls-Name k r)) ∙ at_layer n (layer.Name k r)

  pub expr_of-Call : (k : Kind) (r : Resolved) (es : List CheckedExpr) → expr_of n (tree.Call k r es) ≡ nothing
  expr_of-Call k r es = ap (expr_of n) (sym (tree.rolls-Call k r es)) ∙ at_layer n (layer.Call k r es)

  pub expr_of-Member : (k : Kind) (r : Resolved) (after : Word) (m : Method) (arg : Option CheckedExpr) →
      expr_of n (tree.Member k r after m arg) ≡ method_of n r.denotes m
  expr_of-Member k r after m arg =
      ap (expr_of n) (sym (tree.rolls-Member k r after m arg)) ∙ at_layer n (layer.Member k r after m arg)

  -- forms that hold one expression
  pub expr_of-Paren : (k : Kind) (at : Position) (e : CheckedExpr) → expr_of n (tree.Paren k at e) ≡ expr_of n e
  expr_of-Paren k at e = ap (expr_of n) (sym (tree.rolls-Paren k at e)) ∙ at_layer n (layer.Paren k at e)

  pub expr_of-Index : (k : Kind) (r : Resolved) (e : CheckedExpr) →
      expr_of n (tree.Index k r e) ≡ bound.Element (variable_of n r.denotes) (expr_of n e)
  expr_of-Index k r e = ap (expr_of n) (sym (tree.rolls-Index k r e)) ∙ at_layer n (layer.Index k r e)

  pub expr_of-Prefix : (k : Kind) (at : Position) (op : PrefixOp) (e : CheckedExpr) →
      expr_of n (tree.Prefix k at op e) ≡ prefixed op (expr_of n e)
  expr_of-Prefix k at op e = ap (expr_of n) (sym (tree.rolls-Prefix k at op e)) ∙ at_layer n (layer.Prefix k at op e)

  -- forms that hold more
  pub expr_of-Binary : (k : Kind) (sign : BinaryOp) (a b : CheckedExpr) →
      expr_of n (tree.Binary k sign a b) ≡ operated sign (operator_of sign) (expr_of n a) (expr_of n b)
  expr_of-Binary k sign a b = ap (expr_of n) (sym (tree.rolls-Binary k sign a b)) ∙ at_layer n (layer.Binary k sign a b)

  pub expr_of-Choose : (k : Kind) (c a b : CheckedExpr) →
      expr_of n (tree.Choose k c a b) ≡ bound.Choose k (expr_of n c) (expr_of n a) (expr_of n b)
  expr_of-Choose k c a b = ap (expr_of n) (sym (tree.rolls-Choose k c a b)) ∙ at_layer n (layer.Choose k c a b)
