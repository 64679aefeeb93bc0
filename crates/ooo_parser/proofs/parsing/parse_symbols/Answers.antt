use Rattle.ooo_grammar.specs.Roots.{whole_text}
use Rattle.ooo_parser.specs.Reaches.{reads_at_limits}
use Rattle.ooo_parser.proofs.Outcomes.{tree_of}
use Rattle.ooo_parser.proofs.parsing.parse_symbols.Goals as goal

pub returns-in-Ok-clause-tree : goal.returns-in-Ok-clause-tree
returns-in-Ok-clause-tree c = tree_of c.readers.ensures whole_text c.args.symbols.now c.in-Ok.tree (c.in-Ok.ensures (reads_at_limits whole_text c.args.symbols.now) c.read_unit.ensures)

pub refused-requires : goal.refused-requires
refused-requires c = record { stops = c.in-Err.ensures (reads_at_limits whole_text c.args.symbols.now) c.read_unit.ensures }

pub returns-in-Err-clause-refused : goal.returns-in-Err-clause-refused
returns-in-Err-clause-refused c = λ b p e. c.refused.ensures b p cc
