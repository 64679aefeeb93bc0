use Rattle.ooo_grammar.specs.Statements.{body}
use Rattle.ooo_grammar.specs.Steps.{stops_first, stops_second}
use Rattle.ooo_simple.specs.Steps.{gives_second}
use Rattle.ooo_statements.proofs.statements.read_body.Goals as goal

pub returns-in-Err : goal.returns-in-Err
unfolding body
returns-in-Err c = stops_first _ _ _ c.in-Err.ensures

pub returns-in-Err-read_stats : goal.returns-in-Err-read_stats
unfolding body
returns-in-Err-read_stats c = stops_second _ _ c.in-Ok.ensures (stops_first _ _ _ c.in-Err-read_stats.ensures)

pub returns : goal.returns
unfolding body
returns c = gives_second _ _ c.in-Ok.ensures (gives_second _ _ c.in-Ok-read_stats.ensures c.followed.ensures)
