use Rattle.std.proofs.Common.{◌≡◌, ◌-◌}
use Rattle.ooo_grammar.specs.Forms.{repeats_in}
use Rattle.ooo_grammar.specs.Sets.{in_set}
use Rattle.ooo_grammar.specs.Gives.{reads_at}
use Rattle.ooo_grammar.specs.Members.{setup}
use Rattle.ooo_declarations.specs.Parts.{all_setups, begins_setup}
use Rattle.ooo_declarations.specs.Loops.{one_more}
use Rattle.ooo_declarations.proofs.constructors.read_all_setups.Given as goal

abbrev pub invariant-turns : goal.invariant-turns
invariant-turns l = reads_at l.limits all_setups l.tokens ≡ repeats_in (in_set begins_setup) (one_more l.limits setup) (l._turn-end - l._turn) l.list l.rest
