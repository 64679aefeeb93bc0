-- What each form of expression gives, as an equation.
use Rattle.std.proofs.Common.{◌≡◌, ℕ}
use Rattle.ooo_value.specs.declared.values.Value.{Value}
use Rattle.ooo_value.specs.declared.operators.Op.{Op}
use Rattle.ooo_code.specs.declared.expression.NodeExpr.{NodeExpr, the_lemmas}
use Rattle.ooo_code.specs.declared.expression.NodeExpr.TheOpen as layer
use Rattle.ooo_code.specs.declared.expression.NodeExpr.TheVariants as expression
use Rattle.ooo_code.specs.Expressions.{reading_step, reading_of}

pub reading-Constant : (v : Value) → reading_of (expression.Constant v) ≡ reading_step (layer.Constant v)
unfolding reading_of
reading-Constant v = search (the_lemmas)

pub reading-Signal : (c : ℕ) → reading_of (expression.Signal c) ≡ reading_step (layer.Signal c)
unfolding reading_of
reading-Signal c = search (the_lemmas)

pub reading-Binary : (op : Op) (a b : NodeExpr) → reading_of (expression.Binary op a b) ≡ reading_step (layer.Binary op (reading_of a) (reading_of b))
unfolding reading_of
reading-Binary op a b = search (the_lemmas)

pub reading-Variable : (x : ℕ) → reading_of (expression.Variable x) ≡ reading_step (layer.Variable x)
unfolding reading_of
reading-Variable x = search (the_lemmas)
