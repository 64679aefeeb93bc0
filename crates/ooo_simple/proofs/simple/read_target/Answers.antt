use Rattle.std.proofs.Common.{sym, refl, ◌∙◌}
use Rattle.ooo_grammar.specs.Statements.{target}
use Rattle.ooo_grammar.specs.Steps.{stops_first, stops_second, got_second}
use Rattle.ooo_simple.proofs.simple.read_target.Goals as goal

pub returns-in-Err : goal.returns-in-Err
unfolding target
returns-in-Err c = stops_first _ _ _ c.in-Err.ensures

pub returns-then-not-starts : goal.returns-then-not-starts
unfolding target
returns-then-not-starts c = got_second _ c.in-Ok.ensures (rw (sym c.starts.ensures ∙ c.if-not-starts.true) refl)

pub returns-in-Err-read_index : goal.returns-in-Err-read_index
unfolding target
returns-in-Err-read_index c = stops_second _ _ c.in-Ok.ensures (rw (sym c.starts.ensures ∙ c.if-not-starts.false) (stops_first _ _ _ (stops_first _ _ _ c.in-Err-read_index.ensures)))

pub returns : goal.returns
unfolding target
returns c = got_second _ c.in-Ok.ensures (rw (sym c.starts.ensures ∙ c.if-not-starts.false) (got_second _ (got_second _ c.in-Ok-read_index.ensures refl) refl))
