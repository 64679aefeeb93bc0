use Rattle.std.proofs.Common.{◌≡◌, ◌-◌, [], ◌∷◌}
use Rattle.ooo_syntax.specs.declared.terminal.Terminal.TheVariants as terminal
use Rattle.ooo_grammar.specs.Forms.{repeats_in}
use Rattle.ooo_grammar.specs.Sets.{in_set}
use Rattle.ooo_grammar.specs.Gives.{reads_at}
use Rattle.ooo_grammar.specs.Members.{args}
use Rattle.ooo_declarations.specs.Loops.{arg_step}
use Rattle.ooo_declarations.proofs.arguments.read_args.Given as goal

abbrev pub invariant-turns : goal.invariant-turns
invariant-turns l = reads_at l.limits args l.tokens ≡ repeats_in (in_set (terminal.Comma ∷ [])) (arg_step l.limits) (l._turn-end - l._turn) l.list l.rest
