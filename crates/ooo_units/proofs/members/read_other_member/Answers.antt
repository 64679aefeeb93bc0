use Rattle.std.proofs.Common.{sym, ◌∙◌}
use Rattle.ooo_units.proofs.members.read_other_member.Goals as goal

pub returns-then-starts : goal.returns-then-starts
returns-then-starts c = rw (sym c.starts.ensures ∙ c.if-starts.true) c.read_named_constructor.ensures

pub returns-then-begins_with_type : goal.returns-then-begins_with_type
returns-then-begins_with_type c = rw (sym c.starts.ensures ∙ c.if-starts.false, sym c.begins_with_type.ensures ∙ c.if-begins_with_type.true) c.read_typed_member.ensures

pub returns : goal.returns
returns c = rw (sym c.starts.ensures ∙ c.if-starts.false, sym c.begins_with_type.ensures ∙ c.if-begins_with_type.false) c.read_placed_member.ensures
