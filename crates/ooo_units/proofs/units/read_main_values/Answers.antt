use Rattle.std.proofs.Common.{sym, ◌∙◌}
use Rattle.ooo_grammar.specs.Units.{main_values}
use Rattle.ooo_units.proofs.units.read_main_values.Goals as goal

pub returns-then-starts : goal.returns-then-starts
unfolding main_values
returns-then-starts c = rw (sym c.starts.ensures ∙ c.if-starts.true) c.read_pointer_values.ensures

pub returns : goal.returns
unfolding main_values
returns c = rw (sym c.starts.ensures ∙ c.if-starts.false) c.read_array_values.ensures
