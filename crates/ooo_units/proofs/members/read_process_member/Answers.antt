use Rattle.std.proofs.Common.{refl}
use Rattle.ooo_grammar.specs.Steps.{stops_first, stops_second, got_second}
use Rattle.ooo_units.proofs.members.read_process_member.Goals as goal

pub returns-in-Err : goal.returns-in-Err
returns-in-Err c = stops_first _ _ _ c.in-Err.ensures

pub returns-in-Err-read_word_in_parens : goal.returns-in-Err-read_word_in_parens
returns-in-Err-read_word_in_parens c = stops_second _ _ c.in-Ok.ensures (stops_first _ _ _ c.in-Err-read_word_in_parens.ensures)

pub returns : goal.returns
returns c = got_second _ c.in-Ok.ensures (got_second _ c.in-Ok-read_word_in_parens.ensures refl)
