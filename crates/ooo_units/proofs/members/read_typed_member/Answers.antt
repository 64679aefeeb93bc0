use Rattle.ooo_grammar.specs.Members.{typed_member}
use Rattle.ooo_grammar.specs.Steps.{stops_first, stops_second}
use Rattle.ooo_simple.specs.Steps.{gives_second}
use Rattle.ooo_units.proofs.members.read_typed_member.Goals as goal

pub returns-in-Err : goal.returns-in-Err
unfolding typed_member
returns-in-Err c = stops_first _ _ _ c.in-Err.ensures

pub returns-in-Err-read_word : goal.returns-in-Err-read_word
unfolding typed_member
returns-in-Err-read_word c = stops_second _ _ c.in-Ok.ensures (stops_first _ _ _ c.in-Err-read_word.ensures)

pub returns : goal.returns
unfolding typed_member
returns c = gives_second _ _ c.in-Ok.ensures (gives_second _ _ c.in-Ok-read_word.ensures c.read_typed_tail.ensures)
