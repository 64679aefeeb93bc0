use Rattle.ooo_grammar.specs.Units.{clocks}
use Rattle.ooo_grammar.specs.Steps.{stops_first, stops_second}
use Rattle.ooo_simple.specs.Steps.{gives_second}
use Rattle.ooo_declarations.proofs.main_entries.read_clocks.Goals as goal

pub returns-in-Err : goal.returns-in-Err
unfolding clocks
returns-in-Err c = stops_first _ _ _ c.in-Err.ensures

pub returns-in-Err-read_some_clocks : goal.returns-in-Err-read_some_clocks
unfolding clocks
returns-in-Err-read_some_clocks c = stops_second _ _ c.in-Ok.ensures (stops_first _ _ _ c.in-Err-read_some_clocks.ensures)

pub returns : goal.returns
unfolding clocks
returns c = gives_second _ _ c.in-Ok.ensures (gives_second _ _ c.in-Ok-read_some_clocks.ensures c.followed.ensures)
