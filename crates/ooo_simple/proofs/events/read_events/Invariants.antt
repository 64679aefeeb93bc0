use Rattle.std.proofs.Common.{◌≡◌, ◌-◌, [], ◌∷◌}
use Rattle.ooo_syntax.specs.declared.terminal.Terminal.TheVariants as terminal
use Rattle.ooo_grammar.specs.Forms.{repeats_in}
use Rattle.ooo_grammar.specs.Sets.{in_set}
use Rattle.ooo_grammar.specs.Times.{event, events}
use Rattle.ooo_grammar.specs.Gives.{reads_at}
use Rattle.ooo_simple.specs.Loops.{next_item}
use Rattle.ooo_simple.proofs.events.read_events.Given as goal

abbrev pub invariant-turns : goal.invariant-turns
invariant-turns l = reads_at l.limits events l.tokens ≡ repeats_in (in_set (terminal.Or ∷ [])) (next_item l.limits terminal.Or event) (l._turn-end - l._turn) l.list l.rest
