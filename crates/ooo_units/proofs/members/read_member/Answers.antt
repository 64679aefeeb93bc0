use Rattle.std.proofs.Common.{sym, ◌∙◌}
use Rattle.ooo_grammar.specs.Members.{member}
use Rattle.ooo_grammar.specs.Steps.{stops_first}
use Rattle.ooo_simple.specs.Steps.{gives_second}
use Rattle.ooo_units.proofs.members.read_member.Goals as goal

pub returns-then-starts : goal.returns-then-starts
unfolding member
returns-then-starts c = rw (sym c.starts.ensures ∙ c.if-starts.true) c.read_public_member.ensures

pub returns-then-starts-2 : goal.returns-then-starts-2
unfolding member
returns-then-starts-2 c = rw (sym c.starts.ensures ∙ c.if-starts.false, sym c.starts-2.ensures ∙ c.if-starts-2.true) c.read_static_member.ensures

pub returns-in-Err : goal.returns-in-Err
unfolding member
returns-in-Err c = rw (sym c.starts.ensures ∙ c.if-starts.false, sym c.starts-2.ensures ∙ c.if-starts-2.false, sym c.starts-3.ensures ∙ c.if-starts-3.true) (stops_first _ _ _ c.in-Err.ensures)

pub returns-then-starts-3 : goal.returns-then-starts-3
unfolding member
returns-then-starts-3 c = rw (sym c.starts.ensures ∙ c.if-starts.false, sym c.starts-2.ensures ∙ c.if-starts-2.false, sym c.starts-3.ensures ∙ c.if-starts-3.true) (gives_second _ _ c.in-Ok.ensures c.read_const_fields.ensures)

pub returns-then-starts-4 : goal.returns-then-starts-4
unfolding member
returns-then-starts-4 c = rw (sym c.starts.ensures ∙ c.if-starts.false, sym c.starts-2.ensures ∙ c.if-starts-2.false, sym c.starts-3.ensures ∙ c.if-starts-3.false, sym c.starts-4.ensures ∙ c.if-starts-4.true) c.read_process_member.ensures

pub returns-then-starts-5 : goal.returns-then-starts-5
unfolding member
returns-then-starts-5 c = rw (sym c.starts.ensures ∙ c.if-starts.false, sym c.starts-2.ensures ∙ c.if-starts-2.false, sym c.starts-3.ensures ∙ c.if-starts-3.false, sym c.starts-4.ensures ∙ c.if-starts-4.false, sym c.starts-5.ensures ∙ c.if-starts-5.true) c.read_clocks_member.ensures

pub returns-then-starts-6 : goal.returns-then-starts-6
unfolding member
returns-then-starts-6 c = rw (sym c.starts.ensures ∙ c.if-starts.false, sym c.starts-2.ensures ∙ c.if-starts-2.false, sym c.starts-3.ensures ∙ c.if-starts-3.false, sym c.starts-4.ensures ∙ c.if-starts-4.false, sym c.starts-5.ensures ∙ c.if-starts-5.false, sym c.starts-6.ensures ∙ c.if-starts-6.true) c.read_events_member.ensures

pub returns-then-starts-7 : goal.returns-then-starts-7
unfolding member
returns-then-starts-7 c = rw (sym c.starts.ensures ∙ c.if-starts.false, sym c.starts-2.ensures ∙ c.if-starts-2.false, sym c.starts-3.ensures ∙ c.if-starts-3.false, sym c.starts-4.ensures ∙ c.if-starts-4.false, sym c.starts-5.ensures ∙ c.if-starts-5.false, sym c.starts-6.ensures ∙ c.if-starts-6.false, sym c.starts-7.ensures ∙ c.if-starts-7.true) c.read_void_member.ensures

pub returns : goal.returns
unfolding member
returns c = rw (sym c.starts.ensures ∙ c.if-starts.false, sym c.starts-2.ensures ∙ c.if-starts-2.false, sym c.starts-3.ensures ∙ c.if-starts-3.false, sym c.starts-4.ensures ∙ c.if-starts-4.false, sym c.starts-5.ensures ∙ c.if-starts-5.false, sym c.starts-6.ensures ∙ c.if-starts-6.false, sym c.starts-7.ensures ∙ c.if-starts-7.false) c.read_other_member.ensures
