use Rattle.std.proofs.Common.{sym, subst}
use Rattle.ooo_grammar.specs.Gives.{Gives}
use Rattle.ooo_simple.proofs.times.read_boxed_timed_inside.Goals as goal

pub returns-in-Err : goal.returns-in-Err
returns-in-Err c = c.in-Err.ensures

pub returns : goal.returns
returns c = subst (λ o. Gives o c.on_heap.result) (sym c.in-Ok.ensures) c.on_heap.ensures
