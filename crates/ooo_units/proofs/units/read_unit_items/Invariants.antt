use Rattle.std.proofs.Common.{◌≡◌, ◌-◌}
use Rattle.ooo_grammar.specs.Forms.{repeats_in}
use Rattle.ooo_grammar.specs.Sets.{in_set}
use Rattle.ooo_grammar.specs.Gives.{reads_at}
use Rattle.ooo_grammar.specs.Units.{unit_item}
use Rattle.ooo_units.specs.Parts.{begins_unit_item, unit_items}
use Rattle.ooo_declarations.specs.Loops.{one_more}
use Rattle.ooo_units.proofs.units.read_unit_items.Given as goal

abbrev pub invariant-turns : goal.invariant-turns
invariant-turns l = reads_at l.limits unit_items l.tokens ≡ repeats_in (in_set begins_unit_item) (one_more l.limits unit_item) (l._turn-end - l._turn) l.list l.rest
