use Rattle.std.proofs.Common.{List, sym, ap}
use Rattle.ooo_syntax.specs.declared.module.Setup.{Setup}
use Rattle.ooo_grammar.specs.Forms.{Got}
use Rattle.ooo_grammar.specs.Steps.{stops_first, got_second}
use Rattle.ooo_declarations.proofs.constructors.read_one_more_setup.Goals as goal

pub returns-in-Err : goal.returns-in-Err
returns-in-Err c = stops_first _ _ _ c.in-Err.ensures

pub returns : goal.returns
returns c = got_second _ c.in-Ok.ensures (ap (λ (x : List Setup). Got x c.in-Ok.found.1.now) (sym c.in_ok-with.ensures))
