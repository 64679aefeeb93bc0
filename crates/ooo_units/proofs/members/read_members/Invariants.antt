use Rattle.std.proofs.Common.{◌≡◌, ◌-◌}
use Rattle.ooo_grammar.specs.Forms.{repeats_in}
use Rattle.ooo_grammar.specs.Sets.{in_set}
use Rattle.ooo_grammar.specs.Gives.{reads_at}
use Rattle.ooo_grammar.specs.Members.{begins_member, member}
use Rattle.ooo_units.specs.Parts.{members}
use Rattle.ooo_declarations.specs.Loops.{one_more}
use Rattle.ooo_units.proofs.members.read_members.Given as goal

abbrev pub invariant-turns : goal.invariant-turns
invariant-turns l = reads_at l.limits members l.tokens ≡ repeats_in (in_set begins_member) (one_more l.limits member) (l._turn-end - l._turn) l.list l.rest
