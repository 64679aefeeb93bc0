use Rattle.std.proofs.Common.{List, sym, ap, ◌∙◌}
use Rattle.ooo_syntax.specs.declared.unit.MainItem.{MainItem}
use Rattle.ooo_grammar.specs.Forms.{Got}
use Rattle.ooo_grammar.specs.Units.{main_entry}
use Rattle.ooo_grammar.specs.Steps.{stops_first, stops_second, got_second}
use Rattle.ooo_simple.specs.Steps.{gives_second}
use Rattle.ooo_declarations.proofs.main_entries.read_main_entry.Goals as goal

pub returns-in-Err : goal.returns-in-Err
unfolding main_entry
returns-in-Err c = rw (sym c.begins_with_constant.ensures ∙ c.if-begins_with_constant.true) (stops_first _ _ _ c.in-Err.ensures)

pub returns-then-begins_with_constant : goal.returns-then-begins_with_constant
unfolding main_entry
returns-then-begins_with_constant c = rw (sym c.begins_with_constant.ensures ∙ c.if-begins_with_constant.true) (got_second _ c.in-Ok.ensures (ap (λ (x : List MainItem). Got x c.in-Ok.found.1.now) (sym c.in_ok-begun.ensures)))

pub returns-then-begins_with_channel : goal.returns-then-begins_with_channel
unfolding main_entry
returns-then-begins_with_channel c = rw (sym c.begins_with_constant.ensures ∙ c.if-begins_with_constant.false, sym c.begins_with_channel.ensures ∙ c.if-begins_with_channel.true) c.read_main_channels.ensures

pub returns-then-starts : goal.returns-then-starts
unfolding main_entry
returns-then-starts c = rw (sym c.begins_with_constant.ensures ∙ c.if-begins_with_constant.false, sym c.begins_with_channel.ensures ∙ c.if-begins_with_channel.false, sym c.starts.ensures ∙ c.if-starts.true) c.read_clocks.ensures

pub returns-in-Err-read_word : goal.returns-in-Err-read_word
unfolding main_entry
returns-in-Err-read_word c = rw (sym c.begins_with_constant.ensures ∙ c.if-begins_with_constant.false, sym c.begins_with_channel.ensures ∙ c.if-begins_with_channel.false, sym c.starts.ensures ∙ c.if-starts.false) (stops_first _ _ _ c.in-Err-read_word.ensures)

pub returns-then-begins_with_word : goal.returns-then-begins_with_word
unfolding main_entry
returns-then-begins_with_word c = rw (sym c.begins_with_constant.ensures ∙ c.if-begins_with_constant.false, sym c.begins_with_channel.ensures ∙ c.if-begins_with_channel.false, sym c.starts.ensures ∙ c.if-starts.false) (gives_second _ _ c.in-Ok-read_word.ensures (rw (sym c.begins_with_word.ensures ∙ c.if-begins_with_word.true) c.read_instances_of.ensures))

pub returns-in-Err-read_binding : goal.returns-in-Err-read_binding
unfolding main_entry
returns-in-Err-read_binding c = rw (sym c.begins_with_constant.ensures ∙ c.if-begins_with_constant.false, sym c.begins_with_channel.ensures ∙ c.if-begins_with_channel.false, sym c.starts.ensures ∙ c.if-starts.false) (stops_second _ _ c.in-Ok-read_word.ensures (rw (sym c.begins_with_word.ensures ∙ c.if-begins_with_word.false) (stops_first _ _ _ c.in-Err-read_binding.ensures)))

pub returns : goal.returns
unfolding main_entry
returns c = rw (sym c.begins_with_constant.ensures ∙ c.if-begins_with_constant.false, sym c.begins_with_channel.ensures ∙ c.if-begins_with_channel.false, sym c.starts.ensures ∙ c.if-starts.false) (got_second _ c.in-Ok-read_word.ensures (rw (sym c.begins_with_word.ensures ∙ c.if-begins_with_word.false) (got_second _ c.in-Ok-read_binding.ensures (ap (λ (x : List MainItem). Got x c.in-Ok-read_binding.found.1.now) (sym c.in_ok-begun-2.ensures)))))
