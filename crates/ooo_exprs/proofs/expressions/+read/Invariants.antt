use Rattle.std.proofs.Common.{◌≡◌, ◌+◌, ◌-◌, ◌*◌, [], ◌∷◌}
use Rattle.ooo_syntax.specs.declared.terminal.Terminal.TheVariants as terminal
use Rattle.ooo_grammar.specs.Forms.{repeats_in}
use Rattle.ooo_grammar.specs.Sets.{in_set}
use Rattle.ooo_grammar.specs.Expressions.{some_expressions}
use Rattle.ooo_grammar.specs.Gives.{reads_at}
use Rattle.ooo_exprs.specs.Levels.{level_at, turn_at, kinds_at, rank_of, item_step}
use Rattle.ooo_exprs.proofs.expressions.+read.Given as goal

abbrev pub decreases-read_inner : goal.decreases-read_inner
decreases-read_inner l = l.limits.levels * 64 + 0

abbrev pub decreases-read_boxed_inner : goal.decreases-read_boxed_inner
decreases-read_boxed_inner l = l.limits.levels * 64 + 1

abbrev pub decreases-read_index : goal.decreases-read_index
decreases-read_index l = l.limits.levels * 64 + 2

abbrev pub decreases-read_arguments : goal.decreases-read_arguments
decreases-read_arguments l = l.limits.levels * 64 + 3

abbrev pub decreases-read_some : goal.decreases-read_some
decreases-read_some l = l.limits.levels * 64 + 2

abbrev pub decreases-read_member : goal.decreases-read_member
decreases-read_member l = l.limits.levels * 64 + 2

abbrev pub decreases-read_named : goal.decreases-read_named
decreases-read_named l = l.limits.levels * 64 + 6

abbrev pub decreases-read_prefixed : goal.decreases-read_prefixed
decreases-read_prefixed l = l.limits.levels * 64 + 6

abbrev pub decreases-read_first : goal.decreases-read_first
decreases-read_first l = l.limits.levels * 64 + rank_of l.first

abbrev pub decreases-read_level : goal.decreases-read_level
decreases-read_level l = l.limits.levels * 64 + (rank_of l.first + (11 - l.number))

abbrev pub decreases-read_expression : goal.decreases-read_expression
decreases-read_expression l = l.limits.levels * 64 + (rank_of l.first + 12)

abbrev pub decreases-read_converted : goal.decreases-read_converted
decreases-read_converted l = l.limits.levels * 64 + 2

abbrev pub decreases-read_cast_to : goal.decreases-read_cast_to
decreases-read_cast_to l = l.limits.levels * 64 + 6

abbrev pub decreases-read_parenthesis : goal.decreases-read_parenthesis
decreases-read_parenthesis l = l.limits.levels * 64 + 1

abbrev pub decreases-read_bracketed : goal.decreases-read_bracketed
decreases-read_bracketed l = l.limits.levels * 64 + 22

abbrev pub decreases-read_plain_unary : goal.decreases-read_plain_unary
decreases-read_plain_unary l = l.limits.levels * 64 + 23

abbrev pub decreases-read_unary : goal.decreases-read_unary
decreases-read_unary l = l.limits.levels * 64 + 24

abbrev pub invariant-read_level-turns : goal.invariant-read_level-turns
invariant-read_level-turns l = level_at l.limits l.first l.number l.tokens ≡ repeats_in (in_set (kinds_at l.number)) (turn_at l.limits l.first l.number) (l._turn-end - l._turn) l.left l.rest

abbrev pub invariant-read_some-turns : goal.invariant-read_some-turns
invariant-read_some-turns l = reads_at l.limits some_expressions l.tokens ≡ repeats_in (in_set (terminal.Comma ∷ [])) (item_step l.limits) (l._turn-end - l._turn) l.list l.rest
