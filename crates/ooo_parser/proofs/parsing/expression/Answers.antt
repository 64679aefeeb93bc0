use Rattle.ooo_grammar.specs.Roots.{expression_root}
use Rattle.ooo_parser.specs.Reaches.{reads_at_limits}
use Rattle.ooo_parser.proofs.Outcomes.{part_of, stops_whole}
use Rattle.ooo_parser.proofs.parsing.expression.Goals as goal

pub returns-in-Ok-clause-tree : goal.returns-in-Ok-clause-tree
returns-in-Ok-clause-tree c = part_of c.readers.ensures expression_root c.args.symbols.now c.beginnings_within.ensures c.in-Ok.tree c.in-Ok.rest.now c.in-Ok.ensures

pub refused-requires : goal.refused-requires
refused-requires c = record { stops = stops_whole (reads_at_limits expression_root c.args.symbols.now) c.in-Err.error c.in-Err.ensures }

pub returns-in-Err-clause-refused : goal.returns-in-Err-clause-refused
returns-in-Err-clause-refused c = λ b p e. c.refused.ensures b p cc
