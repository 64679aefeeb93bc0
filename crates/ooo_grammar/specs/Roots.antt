-- The forms that a whole text or a part of one is read as.
use Rattle.std.specs.Prelude.{false, []}
use Rattle.ooo_syntax.specs.declared.expr.Expr.{Expr}
use Rattle.ooo_syntax.specs.declared.unit.Unit.{Unit as UnitSpec}
use Rattle.ooo_grammar.specs.Sets.{Terminals}
use Rattle.ooo_grammar.specs.Names.{begins_expr, after_sum, after_expr}
use Rattle.ooo_grammar.specs.Codes.{Code}
use Rattle.ooo_grammar.specs.Expressions.{value, sum}
use Rattle.ooo_grammar.specs.Units.{unit, begins_unit}

-- a whole text, an expression and a `sum`
pub data Root : Type 0 where
  whole_text expression_root sum_root : Root

abbrev pub Tree : Root → Type 0
Tree whole_text = UnitSpec
Tree expression_root = Expr
Tree sum_root = Expr

abbrev pub root_begins : Root → Terminals
root_begins whole_text = begins_unit
root_begins expression_root = begins_expr
root_begins sum_root = begins_expr

abbrev pub root_goes : (x : Root) → Tree x → Terminals
root_goes whole_text u = []
root_goes expression_root e = after_expr
root_goes sum_root e = after_sum

abbrev pub roots : (x : Root) → Code (Tree x) (root_begins x) (root_goes x) false
roots whole_text = unit
roots expression_root = value
roots sum_root = sum
