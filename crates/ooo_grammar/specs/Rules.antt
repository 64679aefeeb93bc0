-- The forms that stand within one another, by their names.
use Rattle.std.specs.Prelude.{false}
use Rattle.ooo_grammar.specs.Names.{Name, Value, begins, goes, expr_name, plain_name, unary_name, stat_name}
use Rattle.ooo_grammar.specs.Codes.{Code}
use Rattle.ooo_grammar.specs.Expressions.{whole_expression, plain_expression, unary}
use Rattle.ooo_grammar.specs.Statements.{stat}

abbrev pub rules : (x : Name) → Code (Value x) (begins x) (goes x) false
rules expr_name = whole_expression
rules plain_name = plain_expression
rules unary_name = unary
rules stat_name = stat
