use Rattle.std.proofs.Common.{◌≡◌, ◌-◌, [], ◌∷◌, refl}
use Rattle.ooo_syntax.specs.declared.terminal.Terminal.TheVariants as terminal
use Rattle.ooo_grammar.specs.Forms.{repeats_in}
use Rattle.ooo_grammar.specs.Sets.{in_set}
use Rattle.ooo_grammar.specs.Combinators.{separated_inside}
use Rattle.ooo_grammar.specs.Expressions.{inner_value}
use Rattle.ooo_grammar.specs.Gives.{reads_at}
use Rattle.ooo_simple.specs.Loops.{next_inside}
use Rattle.ooo_simple.proofs.simple.read_some_arguments.Given as goal

abbrev pub invariant-turns : goal.invariant-turns
invariant-turns l = reads_at l.limits (separated_inside terminal.Comma inner_value refl) l.tokens ≡ repeats_in (in_set (terminal.Comma ∷ [])) (next_inside l.limits terminal.Comma inner_value) (l._turn-end - l._turn) l.list l.rest
