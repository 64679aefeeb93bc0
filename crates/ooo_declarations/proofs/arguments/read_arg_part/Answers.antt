use Rattle.std.proofs.Common.{refl, sym, ◌∙◌}
use Rattle.ooo_grammar.specs.Members.{arg_part}
use Rattle.ooo_grammar.specs.Steps.{stops_first, got_second}
use Rattle.ooo_declarations.proofs.arguments.read_arg_part.Goals as goal

pub returns-in-Err : goal.returns-in-Err
unfolding arg_part
returns-in-Err c = rw (sym c.starts.ensures ∙ c.if-starts.true) (stops_first _ _ _ c.in-Err.ensures)

pub returns-then-starts : goal.returns-then-starts
unfolding arg_part
returns-then-starts c = rw (sym c.starts.ensures ∙ c.if-starts.true) (got_second _ c.in-Ok.ensures refl)

pub returns-in-Err-read_boxed_named_time : goal.returns-in-Err-read_boxed_named_time
unfolding arg_part
returns-in-Err-read_boxed_named_time c = rw (sym c.starts.ensures ∙ c.if-starts.false, sym c.begins_with_named_time.ensures ∙ c.if-begins_with_named_time.true) (stops_first _ _ _ c.in-Err-read_boxed_named_time.ensures)

pub returns-then-begins_with_named_time : goal.returns-then-begins_with_named_time
unfolding arg_part
returns-then-begins_with_named_time c = rw (sym c.starts.ensures ∙ c.if-starts.false, sym c.begins_with_named_time.ensures ∙ c.if-begins_with_named_time.true) (got_second _ c.in-Ok-read_boxed_named_time.ensures refl)

pub returns-in-Err-read_boxed_value : goal.returns-in-Err-read_boxed_value
unfolding arg_part
returns-in-Err-read_boxed_value c = rw (sym c.starts.ensures ∙ c.if-starts.false, sym c.begins_with_named_time.ensures ∙ c.if-begins_with_named_time.false) (stops_first _ _ _ c.in-Err-read_boxed_value.ensures)

pub returns : goal.returns
unfolding arg_part
returns c = rw (sym c.starts.ensures ∙ c.if-starts.false, sym c.begins_with_named_time.ensures ∙ c.if-begins_with_named_time.false) (got_second _ c.in-Ok-read_boxed_value.ensures refl)
