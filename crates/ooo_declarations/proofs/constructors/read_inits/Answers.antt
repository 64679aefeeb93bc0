use Rattle.ooo_grammar.specs.Members.{inits}
use Rattle.ooo_grammar.specs.Steps.{stops_first}
use Rattle.ooo_simple.specs.Steps.{gives_second}
use Rattle.ooo_declarations.proofs.constructors.read_inits.Goals as goal

pub returns-in-Err : goal.returns-in-Err
unfolding inits
returns-in-Err c = stops_first _ _ _ c.in-Err.ensures

pub returns : goal.returns
unfolding inits
returns c = gives_second _ _ c.in-Ok.ensures c.read_some_inits.ensures
