use Rattle.ooo_grammar.specs.Members.{some_args}
use Rattle.ooo_grammar.specs.Steps.{stops_first, stops_second}
use Rattle.ooo_simple.specs.Steps.{gives_second}
use Rattle.ooo_declarations.proofs.arguments.read_some_args.Goals as goal

pub returns-in-Err : goal.returns-in-Err
unfolding some_args
returns-in-Err c = stops_first _ _ _ c.in-Err.ensures

pub returns-in-Err-read_args_inside : goal.returns-in-Err-read_args_inside
unfolding some_args
returns-in-Err-read_args_inside c = stops_second _ _ c.in-Ok.ensures (stops_first _ _ _ c.in-Err-read_args_inside.ensures)

pub returns : goal.returns
unfolding some_args
returns c = gives_second _ _ c.in-Ok.ensures (gives_second _ _ c.in-Ok-read_args_inside.ensures c.followed.ensures)
