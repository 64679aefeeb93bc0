use Rattle.std.proofs.Common.{sym, ◌∙◌}
use Rattle.ooo_grammar.specs.Expressions.{short_type}
use Rattle.ooo_exprs.proofs.expressions.read_short_type.Goals as goal

pub returns-then-starts : goal.returns-then-starts
unfolding short_type
returns-then-starts c = rw (sym c.starts.ensures ∙ c.if-starts.true) c.read_type_word.ensures

pub returns-then-starts-2 : goal.returns-then-starts-2
unfolding short_type
returns-then-starts-2 c = rw (sym c.starts.ensures ∙ c.if-starts.false, sym c.starts-2.ensures ∙ c.if-starts-2.true) c.read_type_word-then-starts-2.ensures

pub returns : goal.returns
unfolding short_type
returns c = rw (sym c.starts.ensures ∙ c.if-starts.false, sym c.starts-2.ensures ∙ c.if-starts-2.false) c.read_type_word-2.ensures
