use Rattle.std.proofs.Common.{sym, ap}
use Rattle.ooo_syntax.specs.declared.unit.MainItem.{MainItem}
use Rattle.ooo_grammar.specs.Forms.{Got}
use Rattle.ooo_grammar.specs.Units.{instance_of}
use Rattle.ooo_grammar.specs.Steps.{stops_first, stops_second, got_second}
use Rattle.ooo_declarations.proofs.main_entries.read_instance_of.Goals as goal

pub returns-in-Err : goal.returns-in-Err
unfolding instance_of
returns-in-Err c = stops_first _ _ _ c.in-Err.ensures

pub returns-in-Err-read_some_args : goal.returns-in-Err-read_some_args
unfolding instance_of
returns-in-Err-read_some_args c = stops_second _ _ c.in-Ok.ensures (stops_first _ _ _ c.in-Err-read_some_args.ensures)

pub returns : goal.returns
unfolding instance_of
returns c = got_second _ c.in-Ok.ensures (got_second _ c.in-Ok-read_some_args.ensures (ap (λ (x : MainItem). Got x c.in-Ok-read_some_args.found.1.now) (sym c.in_ok-instance.ensures)))
