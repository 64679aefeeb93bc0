use Rattle.ooo_grammar.proofs.LexisLines.{lexis_lines}
use Rattle.ooo_grammar.proofs.ExpressionsLines.{expressions_lines}
use Rattle.ooo_grammar.proofs.TimesLines.{times_lines}
use Rattle.ooo_grammar.proofs.StatementsLines.{statements_lines}
use Rattle.ooo_grammar.proofs.MembersLines.{members_lines}
use Rattle.ooo_grammar.proofs.UnitsLines.{units_lines}
use Rattle.ooo_grammar.proofs.law.lines.Goals as goal

pub returns-clause-words : goal.returns-clause-words
returns-clause-words c = lexis_lines

pub returns-clause-expressions : goal.returns-clause-expressions
returns-clause-expressions c = expressions_lines

pub returns-clause-times : goal.returns-clause-times
returns-clause-times c = times_lines

pub returns-clause-statements : goal.returns-clause-statements
returns-clause-statements c = statements_lines

pub returns-clause-modules : goal.returns-clause-modules
returns-clause-modules c = members_lines

pub returns-clause-units : goal.returns-clause-units
returns-clause-units c = units_lines
