use Rattle.std.proofs.Common.{refl, sym, ◌∙◌}
use Rattle.ooo_grammar.specs.Members.{part}
use Rattle.ooo_grammar.specs.Steps.{stops_first, got_second}
use Rattle.ooo_units.proofs.members.read_part.Goals as goal

pub returns-in-Err : goal.returns-in-Err
unfolding part
returns-in-Err c = stops_first _ _ _ c.in-Err.ensures

pub returns-then-not-starts : goal.returns-then-not-starts
unfolding part
returns-then-not-starts c = got_second _ c.in-Ok.ensures (rw (sym c.starts.ensures ∙ c.if-not-starts.true) refl)

pub returns : goal.returns
unfolding part
returns c = got_second _ c.in-Ok.ensures (rw (sym c.starts.ensures ∙ c.if-not-starts.false) (got_second _ (got_second _ (got_second _ c.in-Ok-one.ensures (got_second _ c.in-Ok-read_args_inside.ensures c.in-Ok-followed.ensures)) refl) refl))
