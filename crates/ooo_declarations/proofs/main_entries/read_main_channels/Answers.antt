use Rattle.ooo_grammar.specs.Units.{main_channels}
use Rattle.ooo_grammar.specs.Steps.{stops_first, stops_second}
use Rattle.ooo_simple.specs.Steps.{gives_second}
use Rattle.ooo_declarations.proofs.main_entries.read_main_channels.Goals as goal

pub returns-in-Err : goal.returns-in-Err
unfolding main_channels
returns-in-Err c = stops_first _ _ _ c.in-Err.ensures

pub returns-in-Err-read_of_type : goal.returns-in-Err-read_of_type
unfolding main_channels
returns-in-Err-read_of_type c = stops_second _ _ c.in-Ok.ensures (stops_first _ _ _ c.in-Err-read_of_type.ensures)

pub returns-in-Err-read_some_main_channels : goal.returns-in-Err-read_some_main_channels
unfolding main_channels
returns-in-Err-read_some_main_channels c = stops_second _ _ c.in-Ok.ensures (stops_second _ _ c.in-Ok-read_of_type.ensures (stops_first _ _ _ c.in-Err-read_some_main_channels.ensures))

pub returns : goal.returns
unfolding main_channels
returns c = gives_second _ _ c.in-Ok.ensures (gives_second _ _ c.in-Ok-read_of_type.ensures (gives_second _ _ c.in-Ok-read_some_main_channels.ensures c.followed.ensures))
