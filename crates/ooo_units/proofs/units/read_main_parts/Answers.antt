use Rattle.std.proofs.Common.{refl}
use Rattle.ooo_grammar.specs.Units.{main_parts}
use Rattle.ooo_grammar.specs.Steps.{stops_first, stops_second, got_second}
use Rattle.ooo_units.proofs.units.read_main_parts.Goals as goal

pub returns-in-Err : goal.returns-in-Err
unfolding main_parts
returns-in-Err c = stops_first _ _ _ c.in-Err.ensures

pub returns-in-Err-read_maybe_start : goal.returns-in-Err-read_maybe_start
unfolding main_parts
returns-in-Err-read_maybe_start c = stops_second _ _ c.in-Ok.ensures (stops_first _ _ _ c.in-Err-read_maybe_start.ensures)

pub returns-in-Err-read_maybe_returned : goal.returns-in-Err-read_maybe_returned
unfolding main_parts
returns-in-Err-read_maybe_returned c = stops_second _ _ c.in-Ok.ensures (stops_second _ _ c.in-Ok-read_maybe_start.ensures (stops_first _ _ _ c.in-Err-read_maybe_returned.ensures))

pub returns : goal.returns
unfolding main_parts
returns c = got_second _ c.in-Ok.ensures (got_second _ c.in-Ok-read_maybe_start.ensures (got_second _ c.in-Ok-read_maybe_returned.ensures refl))
