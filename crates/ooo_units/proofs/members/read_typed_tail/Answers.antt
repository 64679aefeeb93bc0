use Rattle.std.proofs.Common.{refl, sym, ◌∙◌}
use Rattle.ooo_grammar.specs.Members.{typed_tail}
use Rattle.ooo_grammar.specs.Steps.{stops_first, stops_second, got_second}
use Rattle.ooo_units.proofs.members.read_typed_tail.Goals as goal

pub returns-then-starts : goal.returns-then-starts
unfolding typed_tail
returns-then-starts c = rw (sym c.starts.ensures ∙ c.if-starts.true) c.read_function_tail.ensures

pub returns-in-Err : goal.returns-in-Err
unfolding typed_tail
returns-in-Err c = rw (sym c.starts.ensures ∙ c.if-starts.false) (stops_first _ _ _ c.in-Err.ensures)

pub returns-in-Err-read_more_fields : goal.returns-in-Err-read_more_fields
unfolding typed_tail
returns-in-Err-read_more_fields c = rw (sym c.starts.ensures ∙ c.if-starts.false) (stops_second _ _ c.in-Ok.ensures (stops_first _ _ _ c.in-Err-read_more_fields.ensures))

pub returns : goal.returns
unfolding typed_tail
returns c = rw (sym c.starts.ensures ∙ c.if-starts.false) (got_second _ c.in-Ok.ensures (got_second _ c.in-Ok-read_more_fields.ensures refl))
