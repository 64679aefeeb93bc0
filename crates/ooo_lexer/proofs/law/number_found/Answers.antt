use Rattle.std.proofs.Common.{subst}
use Rattle.ooo_lexer.proofs.Numerals.{IsOutcome, number_sound, number_complete}
use Rattle.ooo_lexer.proofs.law.number_found.Goals as goal

pub returns : goal.returns
returns c = λ bs n. (number_complete bs n, λ e. subst (IsOutcome bs) e (number_sound bs))
