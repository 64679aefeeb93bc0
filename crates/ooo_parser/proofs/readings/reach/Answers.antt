use Rattle.ooo_grammar.specs.Roots.{whole_text, expression_root, sum_root}
use Rattle.ooo_parser.specs.Reaches.{reads_at_limits}
use Rattle.ooo_parser.proofs.readings.reach.Goals as goal

pub returns-in-WholeText : goal.returns-in-WholeText
returns-in-WholeText c = rw c.in-WholeText.is (c.extent_of.ensures (reads_at_limits whole_text c.args.symbols.now) c.read_unit.ensures)

pub returns-in-Expression : goal.returns-in-Expression
returns-in-Expression c = rw c.in-Expression.is (c.extent_of-in-Expression.ensures (reads_at_limits expression_root c.args.symbols.now) c.read_value.ensures)

pub returns-in-Sum : goal.returns-in-Sum
returns-in-Sum c = rw c.in-Sum.is (c.extent_of-in-Sum.ensures (reads_at_limits sum_root c.args.symbols.now) c.read_sum.ensures)
