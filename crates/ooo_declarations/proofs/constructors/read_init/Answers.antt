use Rattle.std.proofs.Common.{refl}
use Rattle.ooo_grammar.specs.Members.{init}
use Rattle.ooo_grammar.specs.Steps.{stops_first, stops_second, got_second}
use Rattle.ooo_declarations.proofs.constructors.read_init.Goals as goal

pub returns-in-Err : goal.returns-in-Err
unfolding init
returns-in-Err c = stops_first _ _ _ c.in-Err.ensures

pub returns-in-Err-read_listed_args : goal.returns-in-Err-read_listed_args
unfolding init
returns-in-Err-read_listed_args c = stops_second _ _ c.in-Ok.ensures (stops_first _ _ _ c.in-Err-read_listed_args.ensures)

pub returns : goal.returns
unfolding init
returns c = got_second _ c.in-Ok.ensures (got_second _ c.in-Ok-read_listed_args.ensures refl)
