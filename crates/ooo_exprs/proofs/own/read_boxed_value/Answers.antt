use Rattle.std.proofs.Common.{sym, subst}
use Rattle.ooo_grammar.specs.Gives.{Gives}
use Rattle.ooo_exprs.proofs.own.read_boxed_value.Goals as goal

pub returns-in-Err : goal.returns-in-Err
returns-in-Err c = c.in-Err.ensures

pub returns : goal.returns
returns c = subst (λ o. Gives o c.boxed_read.result) (sym c.in-Ok.ensures) c.boxed_read.ensures
