use Rattle.std.proofs.Common.{refl}
use Rattle.ooo_grammar.specs.Units.{main_channel}
use Rattle.ooo_grammar.specs.Steps.{stops_first, stops_second, got_second}
use Rattle.ooo_declarations.proofs.main_entries.read_main_channel.Goals as goal

pub returns-in-Err : goal.returns-in-Err
unfolding main_channel
returns-in-Err c = stops_first _ _ _ c.in-Err.ensures

pub returns-in-Err-read_maybe_args : goal.returns-in-Err-read_maybe_args
unfolding main_channel
returns-in-Err-read_maybe_args c = stops_second _ _ c.in-Ok.ensures (stops_first _ _ _ c.in-Err-read_maybe_args.ensures)

pub returns : goal.returns
unfolding main_channel
returns c = got_second _ c.in-Ok.ensures (got_second _ c.in-Ok-read_maybe_args.ensures refl)
