use Rattle.std.proofs.Common.{sym, ◌∙◌}
use Rattle.ooo_grammar.specs.Statements.{after_dot}
use Rattle.ooo_simple.proofs.simple.read_after_dot.Goals as goal

pub returns-then-starts : goal.returns-then-starts
unfolding after_dot
returns-then-starts c = rw (sym c.starts.ensures ∙ c.if-starts.true) c.read_notify.ensures

pub returns-then-starts-2 : goal.returns-then-starts-2
unfolding after_dot
returns-then-starts-2 c = rw (sym c.starts.ensures ∙ c.if-starts.false, sym c.starts-2.ensures ∙ c.if-starts-2.true) c.read_cancel.ensures

pub returns : goal.returns
unfolding after_dot
returns c = rw (sym c.starts.ensures ∙ c.if-starts.false, sym c.starts-2.ensures ∙ c.if-starts-2.false) c.read_member_call.ensures
