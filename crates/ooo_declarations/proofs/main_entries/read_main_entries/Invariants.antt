use Rattle.std.proofs.Common.{◌≡◌, ◌-◌}
use Rattle.ooo_grammar.specs.Forms.{repeats_in}
use Rattle.ooo_grammar.specs.Sets.{in_set}
use Rattle.ooo_grammar.specs.Gives.{reads_at}
use Rattle.ooo_grammar.specs.Units.{main_entry}
use Rattle.ooo_declarations.specs.Parts.{begins_main_entry, main_entries}
use Rattle.ooo_declarations.specs.Loops.{more_of}
use Rattle.ooo_declarations.proofs.main_entries.read_main_entries.Given as goal

abbrev pub invariant-turns : goal.invariant-turns
invariant-turns l = reads_at l.limits main_entries l.tokens ≡ repeats_in (in_set begins_main_entry) (more_of l.limits main_entry) (l._turn-end - l._turn) l.list l.rest
