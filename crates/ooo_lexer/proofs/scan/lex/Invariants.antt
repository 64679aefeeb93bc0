use Rattle.std.proofs.Common.{length}
use Rattle.ooo_lexer.proofs.Progress.{Reached}
use Rattle.ooo_lexer.proofs.scan.lex.Given as goal

abbrev pub invariant-pieces : goal.invariant-pieces
invariant-pieces l = Reached l.source l.rest l.tokens.items l.cursor

abbrev pub decreases-pieces : goal.decreases-pieces
decreases-pieces l = length l.rest
