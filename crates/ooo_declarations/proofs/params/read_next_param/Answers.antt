use Rattle.std.proofs.Common.{List, sym, ap}
use Rattle.ooo_syntax.specs.declared.module.Param.{Param}
use Rattle.ooo_grammar.specs.Forms.{Got}
use Rattle.ooo_grammar.specs.Steps.{stops_first, stops_second, got_second}
use Rattle.ooo_declarations.proofs.params.read_next_param.Goals as goal

pub returns-in-Err : goal.returns-in-Err
returns-in-Err c = stops_first _ _ _ c.in-Err.ensures

pub returns-in-Err-read_param : goal.returns-in-Err-read_param
returns-in-Err-read_param c = stops_second _ _ c.in-Ok.ensures (stops_first _ _ _ c.in-Err-read_param.ensures)

pub returns : goal.returns
returns c = got_second _ c.in-Ok.ensures (got_second _ c.in-Ok-read_param.ensures (ap (λ (x : List Param). Got x c.in-Ok-read_param.found.1.now) (sym c.in_ok-with.ensures)))
