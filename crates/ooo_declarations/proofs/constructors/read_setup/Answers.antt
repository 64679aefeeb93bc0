use Rattle.std.proofs.Common.{sym, ◌∙◌}
use Rattle.ooo_grammar.specs.Members.{setup}
use Rattle.ooo_grammar.specs.Steps.{stops_first}
use Rattle.ooo_simple.specs.Steps.{gives_second}
use Rattle.ooo_declarations.proofs.constructors.read_setup.Goals as goal

pub returns-then-starts : goal.returns-then-starts
unfolding setup
returns-then-starts c = rw (sym c.starts.ensures ∙ c.if-starts.true) c.read_thread_setup.ensures

pub returns-then-starts-2 : goal.returns-then-starts-2
unfolding setup
returns-then-starts-2 c = rw (sym c.starts.ensures ∙ c.if-starts.false, sym c.starts-2.ensures ∙ c.if-starts-2.true) c.read_method_setup.ensures

pub returns-then-starts-3 : goal.returns-then-starts-3
unfolding setup
returns-then-starts-3 c = rw (sym c.starts.ensures ∙ c.if-starts.false, sym c.starts-2.ensures ∙ c.if-starts-2.false, sym c.starts-3.ensures ∙ c.if-starts-3.true) c.read_sensitive_setup.ensures

pub returns-then-starts-4 : goal.returns-then-starts-4
unfolding setup
returns-then-starts-4 c = rw (sym c.starts.ensures ∙ c.if-starts.false, sym c.starts-2.ensures ∙ c.if-starts-2.false, sym c.starts-3.ensures ∙ c.if-starts-3.false, sym c.starts-4.ensures ∙ c.if-starts-4.true) c.read_quiet_setup.ensures

pub returns-in-Err : goal.returns-in-Err
unfolding setup
returns-in-Err c = rw (sym c.starts.ensures ∙ c.if-starts.false, sym c.starts-2.ensures ∙ c.if-starts-2.false, sym c.starts-3.ensures ∙ c.if-starts-3.false, sym c.starts-4.ensures ∙ c.if-starts-4.false) (stops_first _ _ _ c.in-Err.ensures)

pub returns : goal.returns
unfolding setup
returns c = rw (sym c.starts.ensures ∙ c.if-starts.false, sym c.starts-2.ensures ∙ c.if-starts-2.false, sym c.starts-3.ensures ∙ c.if-starts-3.false, sym c.starts-4.ensures ∙ c.if-starts-4.false) (gives_second _ _ c.in-Ok.ensures c.read_setup_tail.ensures)
