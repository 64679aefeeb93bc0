use Rattle.std.proofs.Common.{refl, sym, ◌∙◌}
use Rattle.ooo_grammar.specs.Steps.{stops_first, got_second}
use Rattle.ooo_simple.specs.Steps.{gives_second}
use Rattle.ooo_units.proofs.members.read_placed_member.Goals as goal

pub returns-in-Err : goal.returns-in-Err
returns-in-Err c = rw (sym c.begins_with_port.ensures ∙ c.if-begins_with_port.true) (stops_first _ _ _ c.in-Err.ensures)

pub returns-then-begins_with_port : goal.returns-then-begins_with_port
returns-then-begins_with_port c = rw (sym c.begins_with_port.ensures ∙ c.if-begins_with_port.true) (got_second _ c.in-Ok.ensures refl)

pub returns-in-Err-read_channels : goal.returns-in-Err-read_channels
returns-in-Err-read_channels c = rw (sym c.begins_with_port.ensures ∙ c.if-begins_with_port.false, sym c.begins_with_channel.ensures ∙ c.if-begins_with_channel.true) (stops_first _ _ _ c.in-Err-read_channels.ensures)

pub returns-then-begins_with_channel : goal.returns-then-begins_with_channel
returns-then-begins_with_channel c = rw (sym c.begins_with_port.ensures ∙ c.if-begins_with_port.false, sym c.begins_with_channel.ensures ∙ c.if-begins_with_channel.true) (got_second _ c.in-Ok-read_channels.ensures refl)

pub returns-in-Err-read_word : goal.returns-in-Err-read_word
returns-in-Err-read_word c = rw (sym c.begins_with_port.ensures ∙ c.if-begins_with_port.false, sym c.begins_with_channel.ensures ∙ c.if-begins_with_channel.false) (stops_first _ _ _ c.in-Err-read_word.ensures)

pub returns : goal.returns
returns c = rw (sym c.begins_with_port.ensures ∙ c.if-begins_with_port.false, sym c.begins_with_channel.ensures ∙ c.if-begins_with_channel.false) (gives_second _ _ c.in-Ok-read_word.ensures c.read_worded_tail.ensures)
