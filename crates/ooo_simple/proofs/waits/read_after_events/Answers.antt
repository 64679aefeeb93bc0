use Rattle.std.proofs.Common.{sym, ◌∙◌}
use Rattle.ooo_grammar.specs.Times.{after_awaited}
use Rattle.ooo_simple.proofs.waits.read_after_events.Goals as goal

pub returns-then-starts : goal.returns-then-starts
unfolding after_awaited
returns-then-starts c = rw (sym c.starts.ensures ∙ c.if-starts.true) c.followed.ensures

pub returns : goal.returns
unfolding after_awaited
returns c = rw (sym c.starts.ensures ∙ c.if-starts.false) c.read_after_amount.ensures
