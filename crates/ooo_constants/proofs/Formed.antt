-- What constant expressions give, by their forms.
use Rattle.std.proofs.Common.{◌≡◌, ◌∙◌, ap, sym, Bool, List, Option, Ok, if◌then◌else◌}
use Rattle.ooo_lexer.specs.declared.position.Position.{Position}
use Rattle.ooo_value.specs.declared.kinds.Kind.{Kind}
use Rattle.ooo_value.specs.declared.values.Value.TheVariants as value
use Rattle.ooo_value.specs.Operators.{Answer}
use Rattle.ooo_value.specs.Values.{truth_of}
use Rattle.ooo_syntax.specs.declared.leaves.Number.{Number}
use Rattle.ooo_syntax.specs.declared.leaves.TypeName.{TypeName}
use Rattle.ooo_syntax.specs.declared.leaves.Word.{Word}
use Rattle.ooo_syntax.specs.declared.expr.PrefixOp.{PrefixOp}
use Rattle.ooo_syntax.specs.declared.expr.BinaryOp.{BinaryOp}
use Rattle.ooo_checked.specs.declared.denotation.Method.{Method}
use Rattle.ooo_checked.specs.declared.denotation.Resolved.{Resolved}
use Rattle.ooo_checked.specs.declared.expr.CheckedExpr.{CheckedExpr, CheckedExpr-F, map-CheckedExpr, roll-CheckedExpr, fold-roll-CheckedExpr}
use Rattle.ooo_checked.specs.declared.expr.CheckedExpr.TheOpen as layer
use Rattle.ooo_checked.specs.declared.expr.CheckedExpr.TheVariants as tree
use Rattle.ooo_checked.specs.Exprs.{kind_written}
use Rattle.ooo_constants.specs.Meanings.{Constants, name_value, zero_of}
use Rattle.ooo_constants.specs.Values.{converted, on_value, operated, operator_of, prefixed, value_of, value_step}

-- an expression by its form
at_layer : (c : Constants) (y : CheckedExpr-F CheckedExpr) →
    value_of c (roll-CheckedExpr y) ≡ value_step c (map-CheckedExpr CheckedExpr Answer (value_of c) y)
unfolding value_of
at_layer c y = fold-roll-CheckedExpr Answer (value_step c) y

module _ (c : Constants) where
  pub value_of-Number : (k : Kind) (x : Number) → value_of c (tree.Number k x) ≡ Ok x.value
  value_of-Number k x = ap (value_of c) (sym (tree.rolls-Number k x)) ∙ at_layer c (layer.Number k x)

  pub value_of-Truth : (b : Bool) (at : Position) → value_of c (tree.Truth b at) ≡ Ok (value.Bool b)
  value_of-Truth b at = ap (value_of c) (sym (tree.rolls-Truth b at)) ∙ at_layer c (layer.Truth b at)

  pub value_of-Name : (k : Kind) (r : Resolved) → value_of c (tree.Name k r) ≡ Ok (name_value c r.denotes)
  value_of-Name k r = ap (value_of c) (sym (tree.rolls-Name k r)) ∙ at_layer c (layer.Name k r)

  pub value_of-Index : (k : Kind) (r : Resolved) (e : CheckedExpr) → value_of c (tree.Index k r e) ≡ Ok (zero_of k)
  value_of-Index k r e = ap (value_of c) (sym (tree.rolls-Index k r e)) ∙ at_layer c (layer.Index k r e)

  pub value_of-Call : (k : Kind) (r : Resolved) (es : List CheckedExpr) → value_of c (tree.Call k r es) ≡ Ok (zero_of k)
  value_of-Call k r es = ap (value_of c) (sym (tree.rolls-Call k r es)) ∙ at_layer c (layer.Call k r es)

  pub value_of-Member : (k : Kind) (r : Resolved) (after : Word) (m : Method) (arg : Option CheckedExpr) →
      value_of c (tree.Member k r after m arg) ≡ Ok (zero_of k)
  value_of-Member k r after m arg =
      ap (value_of c) (sym (tree.rolls-Member k r after m arg)) ∙ at_layer c (layer.Member k r after m arg)

  pub value_of-Paren : (k : Kind) (at : Position) (e : CheckedExpr) → value_of c (tree.Paren k at e) ≡ value_of c e
  value_of-Paren k at e = ap (value_of c) (sym (tree.rolls-Paren k at e)) ∙ at_layer c (layer.Paren k at e)

  pub value_of-Prefix : (k : Kind) (at : Position) (op : PrefixOp) (e : CheckedExpr) →
      value_of c (tree.Prefix k at op e) ≡ on_value (value_of c e) (prefixed op)
  value_of-Prefix k at op e = ap (value_of c) (sym (tree.rolls-Prefix k at op e)) ∙ at_layer c (layer.Prefix k at op e)

  pub value_of-Cast : (k : Kind) (at : Position) (t : TypeName) (e : CheckedExpr) →
      value_of c (tree.Cast k at t e) ≡ converted (kind_written t.form) (value_of c e)
  value_of-Cast k at t e = ap (value_of c) (sym (tree.rolls-Cast k at t e)) ∙ at_layer c (layer.Cast k at t e)

  pub value_of-Conversion : (k : Kind) (t : TypeName) (e : CheckedExpr) →
      value_of c (tree.Conversion k t e) ≡ converted (kind_written t.form) (value_of c e)
  value_of-Conversion k t e =
      ap (value_of c) (sym (tree.rolls-Conversion k t e)) ∙ at_layer c (layer.Conversion k t e)

  pub value_of-Binary : (k : Kind) (sign : BinaryOp) (a b : CheckedExpr) →
      value_of c (tree.Binary k sign a b) ≡ operated sign (operator_of sign) (value_of c a) (value_of c b)
  value_of-Binary k sign a b =
      ap (value_of c) (sym (tree.rolls-Binary k sign a b)) ∙ at_layer c (layer.Binary k sign a b)

  pub value_of-Choose : (k : Kind) (test a b : CheckedExpr) →
      value_of c (tree.Choose k test a b)
      ≡ on_value (value_of c test) (λ v. converted k (if truth_of v then value_of c a else value_of c b))
  value_of-Choose k test a b =
      ap (value_of c) (sym (tree.rolls-Choose k test a b)) ∙ at_layer c (layer.Choose k test a b)
