use Rattle.std.proofs.Common.{List, sym, ap}
use Rattle.ooo_syntax.specs.declared.unit.MainItem.{MainItem}
use Rattle.ooo_grammar.specs.Forms.{Got}
use Rattle.ooo_grammar.specs.Steps.{stops_first, stops_second, got_second}
use Rattle.ooo_declarations.proofs.main_entries.read_next_instance.Goals as goal

pub returns-in-Err : goal.returns-in-Err
returns-in-Err c = stops_first _ _ _ c.in-Err.ensures

pub returns-in-Err-read_instance_of : goal.returns-in-Err-read_instance_of
returns-in-Err-read_instance_of c = stops_second _ _ c.in-Ok.ensures (stops_first _ _ _ c.in-Err-read_instance_of.ensures)

pub returns : goal.returns
returns c = got_second _ c.in-Ok.ensures (got_second _ c.in-Ok-read_instance_of.ensures (ap (λ (x : List MainItem). Got x c.in-Ok-read_instance_of.found.1.now) (sym c.in_ok-with.ensures)))
