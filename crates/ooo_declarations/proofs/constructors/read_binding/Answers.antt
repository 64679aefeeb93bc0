use Rattle.std.proofs.Common.{sym, ◌∙◌}
use Rattle.ooo_grammar.specs.Members.{binding}
use Rattle.ooo_grammar.specs.Steps.{stops_first, stops_second}
use Rattle.ooo_simple.specs.Steps.{gives_second}
use Rattle.ooo_declarations.proofs.constructors.read_binding.Goals as goal

pub returns-in-Err : goal.returns-in-Err
unfolding binding
returns-in-Err c = stops_first _ _ _ c.in-Err.ensures

pub returns-in-Err-read_member_word : goal.returns-in-Err-read_member_word
unfolding binding
returns-in-Err-read_member_word c = stops_second _ _ c.in-Ok.ensures (rw (sym c.begins_with_member_word.ensures ∙ c.if-begins_with_member_word.true) (stops_first _ _ _ c.in-Err-read_member_word.ensures))

pub returns-then-begins_with_member_word : goal.returns-then-begins_with_member_word
unfolding binding
returns-then-begins_with_member_word c = gives_second _ _ c.in-Ok.ensures (rw (sym c.begins_with_member_word.ensures ∙ c.if-begins_with_member_word.true) (gives_second _ _ c.in-Ok-read_member_word.ensures c.read_after_port.ensures))

pub returns-in-Err-read_event_word : goal.returns-in-Err-read_event_word
unfolding binding
returns-in-Err-read_event_word c = stops_second _ _ c.in-Ok.ensures (rw (sym c.begins_with_member_word.ensures ∙ c.if-begins_with_member_word.false) (stops_first _ _ _ c.in-Err-read_event_word.ensures))

pub returns : goal.returns
unfolding binding
returns c = gives_second _ _ c.in-Ok.ensures (rw (sym c.begins_with_member_word.ensures ∙ c.if-begins_with_member_word.false) (gives_second _ _ c.in-Ok-read_event_word.ensures c.read_by_bind.ensures))
