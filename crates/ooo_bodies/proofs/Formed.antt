-- Equations of expressions, form by form.
use Rattle.std.proofs.Common.{◌≡◌, ◌∙◌, ap, subst, sym, Bool, List, [], ◌++◌, Option, Some, None, Result, Ok, Err}
use Rattle.std.specs.Prelude.{IfOk, OnOk}
use Rattle.std.specs.declared.alloc.AllocError.{AllocError}
use Rattle.std.proofs.lemmas.Simd.{map-map}
use Rattle.ooo_lexer.specs.declared.position.Position.{Position}
use Rattle.ooo_value.specs.Values.{kind_of as kind_of_value}
use Rattle.ooo_syntax.specs.declared.leaves.Number.{Number}
use Rattle.ooo_syntax.specs.declared.leaves.TypeName.{TypeName}
use Rattle.ooo_syntax.specs.declared.leaves.Word.{Word}
use Rattle.ooo_syntax.specs.declared.expr.PrefixOp.{PrefixOp}
use Rattle.ooo_syntax.specs.declared.expr.BinaryOp.{BinaryOp}
use Rattle.ooo_syntax.specs.declared.expr.Expr.{Expr, Expr-F, map-Expr, roll-Expr, fold-roll-Expr}
use Rattle.ooo_syntax.specs.declared.expr.Expr.TheOpen as layer
use Rattle.ooo_syntax.specs.declared.expr.Expr.TheVariants as tree
use Rattle.ooo_checked.specs.declared.expr.CheckedExpr.{CheckedExpr}
use Rattle.ooo_checked.specs.declared.expr.CheckedExpr.TheVariants as expr
use Rattle.ooo_checked.specs.declared.place.CallPlace.TheVariants.{Inside}
use Rattle.ooo_checked.specs.Exprs.{binary_kind, call_of, choice_kind, expr_of, expr_step, exprs_of, index_of, kind_written, member_of, name_of, option_of, prefix_kind}
use Rattle.ooo_checked.specs.Kinds.{kind_of}
use Rattle.ooo_checked.specs.Notes.{Checked, Note}
use Rattle.ooo_checked.specs.Scopes.{Scope}
use Rattle.ooo_bodies.specs.declared.notes.Notes.{Notes}
use Rattle.ooo_bodies.specs.Noting.{noted}
use Rattle.ooo_bodies.specs.Parts.{noted_two, noted_three}

-- what an expression is in a scope
abbrev Reading : Type 0
Reading = Scope → Checked CheckedExpr

-- an expression by its form
at_layer : (y : Expr-F Expr) (s : Scope) → expr_of (roll-Expr y) s ≡ expr_step (map-Expr Expr Reading expr_of y) s
unfolding expr_of
at_layer y s = ap (λ (f : Reading). f s) (fold-roll-Expr Reading expr_step y)

-- what was made is the tree of the expression, and what is noted are its notes, where they are so of its form
module _ (e : Expr) {e' : Expr} (s : Scope) {w : Checked CheckedExpr} (is : e ≡ e') (by : expr_of e' s ≡ w) where
  formed : expr_of e s ≡ w
  formed = ap (λ x. expr_of x s) is ∙ by

  pub formed-tree : (r : CheckedExpr) → r ≡ w.tree → r ≡ (expr_of e s).tree
  formed-tree r h = h ∙ sym (ap (λ (c : Checked CheckedExpr). c.tree) formed)

  pub formed-notes : (n m : Notes) → m ≡ noted n w.notes → m ≡ noted n (expr_of e s).notes
  formed-notes n m h = h ∙ ap (λ (c : Checked CheckedExpr). noted n c.notes) (sym formed)

  pub formed-result : (r : Result CheckedExpr AllocError) → IfOk r (λ tree. tree ≡ w.tree) → IfOk r (λ tree. tree ≡ (expr_of e s).tree)
  formed-result r = subst (λ (c : Checked CheckedExpr). IfOk r (λ tree. tree ≡ c.tree)) (sym formed)

  pub formed-noted : (r : Result CheckedExpr AllocError) (n m : Notes) → OnOk r (m ≡ noted n w.notes) → OnOk r (m ≡ noted n (expr_of e s).notes)
  formed-noted r n m = subst (λ (c : Checked CheckedExpr). OnOk r (m ≡ noted n c.notes)) (sym formed)

module _ (s : Scope) where
  -- a literal, and a name by itself
  pub expr_of-Number : (n : Number) → expr_of (tree.Number n) s ≡ record { tree = expr.Number (kind_of_value n.value) n; notes = [] }
  expr_of-Number n = ap (λ e. expr_of e s) (sym (tree.rolls-Number n)) ∙ at_layer (layer.Number n) s

  pub expr_of-Truth : (b : Bool) (at : Position) → expr_of (tree.Truth b at) s ≡ record { tree = expr.Truth b at; notes = [] }
  expr_of-Truth b at = ap (λ e. expr_of e s) (sym (tree.rolls-Truth b at)) ∙ at_layer (layer.Truth b at) s

  pub expr_of-Name : (w : Word) → expr_of (tree.Name w) s ≡ name_of w s
  expr_of-Name w = ap (λ e. expr_of e s) (sym (tree.rolls-Name w)) ∙ at_layer (layer.Name w) s

  -- forms that hold one expression
  pub expr_of-Paren : (at : Position) (e : Expr) → expr_of (tree.Paren at e) s ≡
      record { tree = expr.Paren (kind_of (expr_of e s).tree) at (expr_of e s).tree; notes = (expr_of e s).notes }
  expr_of-Paren at e = ap (λ e. expr_of e s) (sym (tree.rolls-Paren at e)) ∙ at_layer (layer.Paren at e) s

  pub expr_of-Index : (w : Word) (e : Expr) → expr_of (tree.Index w e) s ≡ index_of w (expr_of e s) s
  expr_of-Index w e = ap (λ e. expr_of e s) (sym (tree.rolls-Index w e)) ∙ at_layer (layer.Index w e) s

  pub expr_of-Prefix : (at : Position) (op : PrefixOp) (e : Expr) → expr_of (tree.Prefix at op e) s ≡
      record { tree = expr.Prefix (prefix_kind op (kind_of (expr_of e s).tree)) at op (expr_of e s).tree; notes = (expr_of e s).notes }
  expr_of-Prefix at op e = ap (λ e. expr_of e s) (sym (tree.rolls-Prefix at op e)) ∙ at_layer (layer.Prefix at op e) s

  pub expr_of-Cast : (at : Position) (t : TypeName) (e : Expr) → expr_of (tree.Cast at t e) s ≡
      record { tree = expr.Cast (kind_written t.form) at t (expr_of e s).tree; notes = (expr_of e s).notes }
  expr_of-Cast at t e = ap (λ e. expr_of e s) (sym (tree.rolls-Cast at t e)) ∙ at_layer (layer.Cast at t e) s

  pub expr_of-Conversion : (t : TypeName) (e : Expr) → expr_of (tree.Conversion t e) s ≡
      record { tree = expr.Conversion (kind_written t.form) t (expr_of e s).tree; notes = (expr_of e s).notes }
  expr_of-Conversion t e = ap (λ e. expr_of e s) (sym (tree.rolls-Conversion t e)) ∙ at_layer (layer.Conversion t e) s

  -- a call in an expression
  pub expr_of-Call : (w : Word) (es : List Expr) → expr_of (tree.Call w es) s ≡ call_of Inside w (exprs_of es s) s
  expr_of-Call w es =
      ap (λ e. expr_of e s) (sym (tree.rolls-Call w es)) ∙ at_layer (layer.Call w es) s
      ∙ ap (λ cs. call_of Inside w cs s) (map-map (λ (f : Reading). f s) expr_of es)

  pub expr_of-Member : (w after : Word) (arg : Option Expr) → expr_of (tree.Member w after arg) s ≡ member_of Inside w after (option_of arg s) s
  expr_of-Member w after None =
      ap (λ e. expr_of e s) (sym (tree.rolls-Member w after None)) ∙ at_layer (layer.Member w after None) s
  expr_of-Member w after (Some e) =
      ap (λ e. expr_of e s) (sym (tree.rolls-Member w after (Some e))) ∙ at_layer (layer.Member w after (Some e)) s

  -- a binary operator
  pub expr_of-Binary : (op : BinaryOp) (a b : Expr) → expr_of (tree.Binary op a b) s ≡ record {
    tree = expr.Binary (binary_kind op (kind_of (expr_of a s).tree) (kind_of (expr_of b s).tree)) op (expr_of a s).tree (expr_of b s).tree;
    notes = (expr_of a s).notes ++ (expr_of b s).notes;
  }
  expr_of-Binary op a b = ap (λ e. expr_of e s) (sym (tree.rolls-Binary op a b)) ∙ at_layer (layer.Binary op a b) s

  -- a choice
  pub expr_of-Choose : (c a b : Expr) → expr_of (tree.Choose c a b) s ≡ record {
    tree = expr.Choose (choice_kind (kind_of (expr_of a s).tree) (kind_of (expr_of b s).tree)) (expr_of c s).tree (expr_of a s).tree (expr_of b s).tree;
    notes = (expr_of c s).notes ++ (expr_of a s).notes ++ (expr_of b s).notes;
  }
  expr_of-Choose c a b = ap (λ e. expr_of e s) (sym (tree.rolls-Choose c a b)) ∙ at_layer (layer.Choose c a b) s

-- notes, and then others where what noted them made something
pub noted_after : {T E : Type 0} (r : Result T E) (n m k : Notes) (xs ys : List Note) → m ≡ noted n xs → OnOk r (k ≡ noted m ys) → OnOk r (k ≡ noted n (xs ++ ys))
noted_after (Ok x) n m k xs ys first second = second ∙ noted_two n m xs ys first
noted_after (Err e) n m k xs ys first second = second

-- the notes of both sides, one after the other
pub noted-Binary : (op : BinaryOp) (e a b a' b' : Expr) (s : Scope) (n m k : Notes) → e ≡ tree.Binary op a b → a' ≡ a → b' ≡ b →
    m ≡ noted n (expr_of a' s).notes → k ≡ noted m (expr_of b' s).notes → k ≡ noted n (expr_of e s).notes
noted-Binary op e a b a' b' s n m k is left right first second =
    second ∙ ap (λ x. noted m (expr_of x s).notes) right
    ∙ noted_two n m (expr_of a s).notes (expr_of b s).notes (first ∙ ap (λ x. noted n (expr_of x s).notes) left)
    ∙ ap (λ x. noted n x) (sym (ap (λ x. (expr_of x s).notes) is ∙ ap (λ c. c.notes) (expr_of-Binary s op a b)))

-- the notes of the test and of both branches, one after the other
pub noted-Choose : (e c a b c' a' b' : Expr) (s : Scope) (n m k o : Notes) → e ≡ tree.Choose c a b → c' ≡ c → a' ≡ a → b' ≡ b →
    m ≡ noted n (expr_of c' s).notes → k ≡ noted m (expr_of a' s).notes → o ≡ noted k (expr_of b' s).notes →
    o ≡ noted n (expr_of e s).notes
noted-Choose e c a b c' a' b' s n m k o is test left right first second third =
    third ∙ ap (λ x. noted k (expr_of x s).notes) right
    ∙ noted_three n m k (expr_of c s).notes (expr_of a s).notes (expr_of b s).notes
    (first ∙ ap (λ x. noted n (expr_of x s).notes) test) (second ∙ ap (λ x. noted m (expr_of x s).notes) left)
    ∙ ap (λ x. noted n x) (sym (ap (λ x. (expr_of x s).notes) is ∙ ap (λ c. c.notes) (expr_of-Choose s c a b)))
