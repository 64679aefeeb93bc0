use Rattle.std.proofs.Common.{List, sym, ap, ◌∙◌}
use Rattle.ooo_syntax.specs.declared.module.Arg.{Arg}
use Rattle.ooo_grammar.specs.Forms.{Got}
use Rattle.ooo_grammar.specs.Members.{scale_or_arg}
use Rattle.ooo_grammar.specs.Steps.{stops_first, got_second}
use Rattle.ooo_declarations.proofs.arguments.read_scale_or_arg.Goals as goal

pub returns-in-Err : goal.returns-in-Err
unfolding scale_or_arg
returns-in-Err c = rw (sym c.begins_with_unit_of_time.ensures ∙ c.if-begins_with_unit_of_time.true) (stops_first _ _ _ c.in-Err.ensures)

pub returns-then-begins_with_unit_of_time : goal.returns-then-begins_with_unit_of_time
unfolding scale_or_arg
returns-then-begins_with_unit_of_time c = rw (sym c.begins_with_unit_of_time.ensures ∙ c.if-begins_with_unit_of_time.true) (got_second _ c.in-Ok.ensures (ap (λ (x : List Arg). Got x c.in-Ok.found.1.now) (sym c.in_ok-with_unit.ensures)))

pub returns-in-Err-read_arg_part : goal.returns-in-Err-read_arg_part
unfolding scale_or_arg
returns-in-Err-read_arg_part c = rw (sym c.begins_with_unit_of_time.ensures ∙ c.if-begins_with_unit_of_time.false) (stops_first _ _ _ c.in-Err-read_arg_part.ensures)

pub returns : goal.returns
unfolding scale_or_arg
returns c = rw (sym c.begins_with_unit_of_time.ensures ∙ c.if-begins_with_unit_of_time.false) (got_second _ c.in-Ok-read_arg_part.ensures (ap (λ (x : List Arg). Got x c.in-Ok-read_arg_part.found.1.now) (sym c.in_ok-with.ensures)))
