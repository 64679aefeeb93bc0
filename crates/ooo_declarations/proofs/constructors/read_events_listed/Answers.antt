use Rattle.ooo_grammar.specs.Members.{events_listed}
use Rattle.ooo_grammar.specs.Steps.{stops_first}
use Rattle.ooo_simple.specs.Steps.{gives_second}
use Rattle.ooo_declarations.proofs.constructors.read_events_listed.Goals as goal

pub returns-in-Err : goal.returns-in-Err
unfolding events_listed
returns-in-Err c = stops_first _ _ _ c.in-Err.ensures

pub returns : goal.returns
unfolding events_listed
returns c = gives_second _ _ c.in-Ok.ensures c.followed.ensures
