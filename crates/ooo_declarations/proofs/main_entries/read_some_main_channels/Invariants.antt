use Rattle.std.proofs.Common.{◌≡◌, ◌-◌, [], ◌∷◌}
use Rattle.ooo_syntax.specs.declared.terminal.Terminal.TheVariants as terminal
use Rattle.ooo_grammar.specs.Forms.{repeats_in}
use Rattle.ooo_grammar.specs.Sets.{in_set}
use Rattle.ooo_grammar.specs.Gives.{reads_at}
use Rattle.ooo_grammar.specs.Units.{main_channel}
use Rattle.ooo_declarations.specs.Parts.{some_main_channels}
use Rattle.ooo_simple.specs.Loops.{next_item}
use Rattle.ooo_declarations.proofs.main_entries.read_some_main_channels.Given as goal

abbrev pub invariant-turns : goal.invariant-turns
invariant-turns l = reads_at l.limits (some_main_channels l.channel l.form) l.tokens ≡ repeats_in (in_set (terminal.Comma ∷ [])) (next_item l.limits terminal.Comma (main_channel l.channel l.form)) (l._turn-end - l._turn) l.list l.rest
