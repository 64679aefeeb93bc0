use Rattle.std.proofs.Common.{sym, refl, ◌∙◌}
use Rattle.ooo_grammar.specs.Statements.{item}
use Rattle.ooo_grammar.specs.Steps.{stops_first, stops_second, got_second}
use Rattle.ooo_exprs.specs.Steps.{gives_second}
use Rattle.ooo_simple.proofs.prints.read_print_item.Goals as goal

pub returns-in-Err : goal.returns-in-Err
unfolding item
returns-in-Err c = rw (sym c.starts.ensures ∙ c.if-starts.true) (stops_first _ _ _ c.in-Err.ensures)

pub returns-then-starts : goal.returns-then-starts
unfolding item
returns-then-starts c = rw (sym c.starts.ensures ∙ c.if-starts.true) (got_second _ c.in-Ok.ensures refl)

pub returns-in-Err-one : goal.returns-in-Err-one
unfolding item
returns-in-Err-one c = rw (sym c.starts.ensures ∙ c.if-starts.false, sym c.starts-2.ensures ∙ c.if-starts-2.true) (stops_first _ _ _ c.in-Err-one.ensures)

pub returns-then-starts-2 : goal.returns-then-starts-2
unfolding item
returns-then-starts-2 c = rw (sym c.starts.ensures ∙ c.if-starts.false, sym c.starts-2.ensures ∙ c.if-starts-2.true) (got_second _ c.in-Ok-one.ensures refl)

pub returns-in-Err-one-2 : goal.returns-in-Err-one-2
unfolding item
returns-in-Err-one-2 c = rw (sym c.starts.ensures ∙ c.if-starts.false, sym c.starts-2.ensures ∙ c.if-starts-2.false, sym c.starts-3.ensures ∙ c.if-starts-3.true) (stops_first _ _ _ c.in-Err-one-2.ensures)

pub returns-in-Err-one-3 : goal.returns-in-Err-one-3
unfolding item
returns-in-Err-one-3 c = rw (sym c.starts.ensures ∙ c.if-starts.false, sym c.starts-2.ensures ∙ c.if-starts-2.false, sym c.starts-3.ensures ∙ c.if-starts-3.true) (stops_second _ _ c.in-Ok-one-2.ensures (stops_first _ _ _ c.in-Err-one-3.ensures))

pub returns-then-starts-3 : goal.returns-then-starts-3
unfolding item
returns-then-starts-3 c = rw (sym c.starts.ensures ∙ c.if-starts.false, sym c.starts-2.ensures ∙ c.if-starts-2.false, sym c.starts-3.ensures ∙ c.if-starts-3.true) (gives_second _ _ c.in-Ok-one-2.ensures (gives_second _ _ c.in-Ok-one-3.ensures c.followed.ensures))

pub returns-in-Err-read_sum : goal.returns-in-Err-read_sum
unfolding item
returns-in-Err-read_sum c = rw (sym c.starts.ensures ∙ c.if-starts.false, sym c.starts-2.ensures ∙ c.if-starts-2.false, sym c.starts-3.ensures ∙ c.if-starts-3.false) (stops_first _ _ _ c.in-Err-read_sum.ensures)

pub returns : goal.returns
unfolding item
returns c = rw (sym c.starts.ensures ∙ c.if-starts.false, sym c.starts-2.ensures ∙ c.if-starts-2.false, sym c.starts-3.ensures ∙ c.if-starts-3.false) (got_second _ c.in-Ok-read_sum.ensures refl)
