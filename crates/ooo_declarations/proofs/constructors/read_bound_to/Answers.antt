use Rattle.std.proofs.Common.{refl}
use Rattle.ooo_grammar.specs.Members.{bound_to}
use Rattle.ooo_grammar.specs.Steps.{stops_first, stops_second, got_second}
use Rattle.ooo_declarations.proofs.constructors.read_bound_to.Goals as goal

pub returns-in-Err : goal.returns-in-Err
unfolding bound_to
returns-in-Err c = stops_first _ _ _ (stops_first _ _ _ c.in-Err.ensures)

pub returns-in-Err-followed : goal.returns-in-Err-followed
unfolding bound_to
returns-in-Err-followed c = stops_first _ _ _ (stops_second _ _ c.in-Ok.ensures c.in-Err-followed.ensures)

pub returns : goal.returns
unfolding bound_to
returns c = got_second _ (got_second _ c.in-Ok.ensures c.in-Ok-followed.ensures) refl
