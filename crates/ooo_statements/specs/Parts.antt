-- Parts of statements that the grammar writes in one line with what stands around them.
use Rattle.std.specs.Prelude.{false, [], ◌∷◌, refl}
use Rattle.ooo_lexer.specs.declared.position.Position.{Position}
use Rattle.ooo_syntax.specs.declared.terminal.Terminal.TheVariants as terminal
use Rattle.ooo_syntax.specs.declared.stat.Stat.{Stat}
use Rattle.ooo_syntax.specs.declared.stat.Stat.TheVariants as stat_form
use Rattle.ooo_grammar.specs.Codes.{Code}
use Rattle.ooo_grammar.specs.Combinators.{none, ended, in_parens, skip, to}
use Rattle.ooo_grammar.specs.Expressions.{inner_value}

-- "while" "(" expr ")" ";", after `do` and its statement
abbrev pub closed_do : Position → Stat → Code Stat (terminal.While ∷ []) none false
closed_do p s = skip terminal.While (to (λ e. stat_form.Do p s e) (ended terminal.Semicolon (in_parens inner_value refl) refl))
