use Rattle.std.proofs.Common.{sym, ◌∙◌}
use Rattle.ooo_grammar.specs.Members.{after_port}
use Rattle.ooo_declarations.proofs.constructors.read_after_port.Goals as goal

pub returns-then-starts : goal.returns-then-starts
unfolding after_port
returns-then-starts c = rw (sym c.starts.ensures ∙ c.if-starts.true) c.read_by_bind.ensures

pub returns : goal.returns
unfolding after_port
returns c = rw (sym c.starts.ensures ∙ c.if-starts.false) c.read_bound_to.ensures
