use Rattle.std.proofs.Common.{refl, sym, ◌∙◌}
use Rattle.ooo_grammar.specs.Members.{worded_tail}
use Rattle.ooo_grammar.specs.Steps.{stops_first, got_second}
use Rattle.ooo_units.proofs.members.read_worded_tail.Goals as goal

pub returns-then-starts : goal.returns-then-starts
unfolding worded_tail
returns-then-starts c = rw (sym c.starts.ensures ∙ c.if-starts.true) c.read_written_constructor.ensures

pub returns-in-Err : goal.returns-in-Err
unfolding worded_tail
returns-in-Err c = rw (sym c.starts.ensures ∙ c.if-starts.false) (stops_first _ _ _ c.in-Err.ensures)

pub returns : goal.returns
unfolding worded_tail
returns c = rw (sym c.starts.ensures ∙ c.if-starts.false) (got_second _ c.in-Ok.ensures refl)
