use Rattle.ooo_grammar.specs.Members.{more_fields}
use Rattle.ooo_grammar.specs.Steps.{stops_first}
use Rattle.ooo_simple.specs.Steps.{gives_second}
use Rattle.ooo_units.proofs.members.read_more_fields.Goals as goal

pub returns-in-Err : goal.returns-in-Err
unfolding more_fields
returns-in-Err c = stops_first _ _ _ c.in-Err.ensures

pub returns : goal.returns
unfolding more_fields
returns c = gives_second _ _ c.in-Ok.ensures c.followed.ensures
