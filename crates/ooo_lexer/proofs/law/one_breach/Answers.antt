use Rattle.ooo_lexer.proofs.Cuttings.{one_breach, no_cutting}
use Rattle.ooo_lexer.proofs.Decided.{cut_or_broken}
use Rattle.ooo_lexer.proofs.law.one_breach.Goals as goal

pub returns-clause-breach : goal.returns-clause-breach
returns-clause-breach c = one_breach

pub returns-clause-uncut : goal.returns-clause-uncut
returns-clause-uncut c = no_cutting

pub returns-clause-either : goal.returns-clause-either
returns-clause-either c = cut_or_broken
