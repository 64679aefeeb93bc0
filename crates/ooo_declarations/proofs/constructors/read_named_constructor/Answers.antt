use Rattle.std.proofs.Common.{refl}
use Rattle.ooo_grammar.specs.Members.{named_constructor}
use Rattle.ooo_grammar.specs.Steps.{stops_first, stops_second, got_second}
use Rattle.ooo_declarations.proofs.constructors.read_named_constructor.Goals as goal

pub returns-in-Err : goal.returns-in-Err
unfolding named_constructor
returns-in-Err c = stops_first _ _ _ c.in-Err.ensures

pub returns-in-Err-read_parens_word : goal.returns-in-Err-read_parens_word
unfolding named_constructor
returns-in-Err-read_parens_word c = stops_second _ _ c.in-Ok.ensures (stops_first _ _ _ c.in-Err-read_parens_word.ensures)

pub returns-in-Err-read_maybe_inits : goal.returns-in-Err-read_maybe_inits
unfolding named_constructor
returns-in-Err-read_maybe_inits c = stops_second _ _ c.in-Ok.ensures (stops_second _ _ c.in-Ok-read_parens_word.ensures (stops_first _ _ _ c.in-Err-read_maybe_inits.ensures))

pub returns-in-Err-read_setups : goal.returns-in-Err-read_setups
unfolding named_constructor
returns-in-Err-read_setups c = stops_second _ _ c.in-Ok.ensures (stops_second _ _ c.in-Ok-read_parens_word.ensures (stops_second _ _ c.in-Ok-read_maybe_inits.ensures (stops_first _ _ _ c.in-Err-read_setups.ensures)))

pub returns : goal.returns
unfolding named_constructor
returns c = got_second _ c.in-Ok.ensures (got_second _ c.in-Ok-read_parens_word.ensures (got_second _ c.in-Ok-read_maybe_inits.ensures (got_second _ c.in-Ok-read_setups.ensures refl)))
